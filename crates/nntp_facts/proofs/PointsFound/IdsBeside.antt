-- Points that are about the ids at numbers, where what an answer says conflicts with what is kept.
use Rattle.nntp_facts.proofs.Base.{arith, ℕ, Bool, true, cond, List, [], ◌∷◌, ◌≡◌, ◌++◌, ◌==◌, IsTrue, Option, None, Some, refl, sym, eq-eqb, eqb-true, IfSome}
use Rattle.nntp_facts.proofs.Base.{MatchOption, AllByRecursion, option_map_or, same_text, OverviewValue, Range, Id, Name, is_same, Profile, Fact, OverviewsAre}
use Rattle.nntp_facts.proofs.Base.{first_given, id_in, number_in, AgreesWithItself, all_at, all_from, first_found, same_itself, apart_agree, or_none, Kept}
use Rattle.nntp_facts.proofs.Base.{OfGroup, GiveSame, Point, IdOf, PlaceOf, rank, ConflictAt, if_some, none_there, of_rank, give_same_of_both, IsPointOf}
use Rattle.nntp_facts.{proofs.PointsFound.{KindsOfPoints.{one_given}, Statements.{id_given, place_given}}, specs.Inner.Points.{Statement, IsBeside}}
use Rattle.nntp_facts.specs.Inner.Points.{other_id_at, other_place_of}
use Rattle.nntp_kept.proofs.Keeping.OverviewsTold.{of_range}

-- the test of what is kept gives the point where that is another
other_id : (o : Option Id) (id : Id) (p : Point) → MatchOption (cond (option_map_or (λ y. is_same y id) o true) None (Some p)) (IfSome o (λ y. id ≡ y)) (λ q. (q ≡ p) × (IfSome o (λ y. id ≡ y) → ⊥))
other_id None id p = tt
other_id (Some y) id p = grind (arith, same_text y id, same_itself id)

other_place : (o : Option ℕ) (n : ℕ) (p : Point) → MatchOption (cond (option_map_or (λ y. y == n) o true) None (Some p)) (IfSome o (λ y. n ≡ y)) (λ q. (q ≡ p) × (IfSome o (λ y. n ≡ y) → ⊥))
other_place o n p = grind (arith, eqb-true, eq-eqb)

-- the entry that is shown, if one is
abbrev pub entries : Option (ℕ × Id) → List (ℕ × Id)
entries None = []
entries (Some e) = e ∷ []

-- the id of the first entry at the number, and the number of the first with the id
abbrev id_among : {X : Type 0} → (X → ℕ × Id) → List X → ℕ → Option Id
id_among entry xs n = first_given (λ x. cond ((entry x).0 == n) (Some (entry x).1) None) xs

abbrev place_among : {X : Type 0} → (X → ℕ × Id) → List X → Id → Option ℕ
place_among entry xs id = first_given (λ x. cond (is_same (entry x).1 id) (Some (entry x).0) None) xs

module _ (profile : Profile) (facts : List Fact) (k : Kept) (t : Statement) (more : List Fact) (h : IsBeside profile facts k t more) where
  abbrev all : List Fact
  all = facts ++ more

  -- what is kept may stand beside what the answer gives, so that they conflict at no such point
  id_free : ((name : Name) (n : ℕ) → GiveSame (id_in name n) facts more) → IsPointOf all 5 None
  id_free same = of_rank (λ point. ConflictAt all point → ⊥) 5 (λ name n c. c
      (one_given profile facts k t more h (id_in name n) (λ name. refl) (λ name ask. refl) (h.together.ids name n) (h.tells.agree.ids name n) (same name n)))

  place_free : ((name : Name) (id : Id) → GiveSame (number_in name id) facts more) → IsPointOf all 6 None
  place_free same = of_rank (λ point. ConflictAt all point → ⊥) 6 (λ name id c. c
      (one_given profile facts k t more h (number_in name id) (λ name. refl) (λ name ask. refl) (h.together.ids_once name id) (h.tells.agree.ids_once name id) (same name id)))

  -- what is given where the answer shows no id, or one at a number
  pub no_ids : t.saying.group ≡ None → IsPointOf all 5 None
  no_ids e = grind (arith, id_free, id_given profile t more h.tells)

  pub no_places : t.saying.group ≡ None → IsPointOf all 6 None
  no_places e = grind (arith, place_free, place_given profile t more h.tells)

  -- ids at numbers, or numbers of ids, that the answer gives of entries of a group, where one may be kept otherwise
  module _ {K A X : Type 0} (gives : Name → K → Fact → Option A) (about : Name → K → Point) (n : ℕ) (free : ((name : Name) (k : K) → GiveSame (gives name k) facts more) → IsPointOf all n None)
      (conflict : (name : Name) (k : K) → (GiveSame (gives name k) facts more → ⊥) → ConflictAt all (about name k) × (rank (about name k) ≡ n)) (same : K → K → Bool)
      (is : (a b : K) → IsTrue (same a b) → a ≡ b) (g : Name) (key : X → K) (value : X → A) (at : X → Option Point) where
    -- the entry may stand beside what is kept
    abbrev Fits : X → Type 0
    Fits x = IfSome (first_given (gives g (key x)) facts) (λ y. value x ≡ y)

    -- what the first entry with the key has
    abbrev among : List X → K → Option A
    among xs k = first_given (λ x. cond (same (key x) k) (Some (value x)) None) xs

    first_point : ((x : X) → MatchOption (at x) (Fits x) (λ p. (p ≡ about g (key x)) × (Fits x → ⊥))) → (xs : List X) → AllByRecursion (λ x. among xs (key x) ≡ Some (value x)) xs
        → ((name : Name) (k : K) → first_given (gives name k) more ≡ cond (is_same g name) (among xs k) None) → (o : Option Point) → o ≡ first_given at xs → IsPointOf all n o
    first_point test xs own read (Some point) found =
        let f = first_found at xs point (sym found) in
        grind (arith, test f.0, all_at (λ x. among xs (key x) ≡ Some (value x)) f.0 xs own f.1, conflict, read g (key f.0), same_itself g)
    first_point test xs own read None found = free (λ name k. if_some (first_given (gives name k) more) _ (λ y e.
        let s : IsTrue (is_same g name) × (among xs k ≡ Some y) = grind (arith, read name k, e) in
        let x = first_found (λ x. cond (same (key x) k) (Some (value x)) None) xs y s.1 in
        let none = none_there at xs x.0 x.1 (sym found) in
        grind (arith, test x.0, is, same_text g name)))

  -- of ids
  abbrev id_kept : Name → ℕ → Option Id
  id_kept name n = first_given (id_in name n) facts

  abbrev place_kept : Name → Id → Option ℕ
  place_kept name id = first_given (number_in name id) facts

  id_points : {X : Type 0} (name : Name) (entry : X → ℕ × Id) (xs : List X) → AllByRecursion (λ x. id_among entry xs (entry x).0 ≡ Some (entry x).1) xs
      → ((other : Name) (n : ℕ) → first_given (id_in other n) more ≡ cond (is_same name other) (id_among entry xs n) None)
      → (o : Option Point) → o ≡ first_given (λ x. other_id_at (id_kept name) name (entry x)) xs → IsPointOf all 5 o
  id_points name entry = first_point id_in IdOf 5 id_free (λ name n other. (λ one. other (give_same_of_both (id_in name n) facts more one), refl)) (λ a b. a == b) eqb-true name
      (λ x. (entry x).0) (λ x. (entry x).1) (λ x. other_id_at (id_kept name) name (entry x)) (λ x. other_id (id_kept name (entry x).0) (entry x).1 (IdOf name (entry x).0))

  place_points : {X : Type 0} (name : Name) (entry : X → ℕ × Id) (xs : List X) → AllByRecursion (λ x. place_among entry xs (entry x).1 ≡ Some (entry x).0) xs
      → ((other : Name) (id : Id) → first_given (number_in other id) more ≡ cond (is_same name other) (place_among entry xs id) None)
      → (o : Option Point) → o ≡ first_given (λ x. other_place_of (place_kept name) name (entry x)) xs → IsPointOf all 6 o
  place_points name entry = first_point number_in PlaceOf 6 place_free (λ name id other. (λ one. other (give_same_of_both (number_in name id) facts more one), refl)) is_same
      (λ a b t. same_text a b (sym t)) name (λ x. (entry x).1) (λ x. (entry x).0) (λ x. other_place_of (place_kept name) name (entry x))
      (λ x. other_place (place_kept name (entry x).1) (entry x).0 (PlaceOf name (entry x).1))

  module _ (g : OfGroup) (group : t.saying.group ≡ Some g) where
    -- where no overviews are said
    module _ (plain : t.saying.overviews ≡ None) (o : Option (ℕ × Id)) (is : g.id ≡ o) where
      pub id_point : (p : Option Point) → p ≡ first_given (other_id_at (id_kept g.name) g.name) (entries o) → IsPointOf all 5 p
      id_point = id_points g.name (λ e. e) (entries o) (grind (arith, eq-eqb)) (λ name n. grind (arith, id_given profile t more h.tells name n, or_none))

      pub place_point : (p : Option Point) → p ≡ first_given (other_place_of (place_kept g.name) g.name) (entries o) → IsPointOf all 6 p
      place_point = place_points g.name (λ e. e) (entries o) (grind (arith, same_itself)) (λ name id. grind (arith, place_given profile t more h.tells name id, or_none))

    -- where overviews are
    module _ (o : Range × List OverviewValue) (listed : t.saying.overviews ≡ Some o) where
      own : AgreesWithItself (OverviewsAre g.name o.0 o.1)
      own = let own = (of_range h.tells.before t.saying h.tells.tells.asks h.tells.tells.may o listed).own in apart_agree g.name o.0 o.1 own.numbers own.ids

      pub listed_id_point : (p : Option Point) → p ≡ first_given (λ v. other_id_at (id_kept g.name) g.name (v.number, v.id)) o.1 → IsPointOf all 5 p
      listed_id_point = id_points g.name (λ v. (v.number, v.id)) o.1 (all_from _ o.1 (λ v i. (all_at _ v o.1 own i).0)) (λ name n. grind (arith, id_given profile t more h.tells))

      pub listed_place_point : (p : Option Point) → p ≡ first_given (λ v. other_place_of (place_kept g.name) g.name (v.number, v.id)) o.1 → IsPointOf all 6 p
      listed_place_point = place_points g.name (λ v. (v.number, v.id)) o.1 (all_from _ o.1 (λ v i. (all_at _ v o.1 own i).1)) (λ name id. grind (arith, place_given profile t more h.tells))
