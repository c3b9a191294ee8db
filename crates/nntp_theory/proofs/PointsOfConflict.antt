-- What doesn't stand together conflicts at some point, and so at a first one.
use Rattle.nntp_theory.proofs.Members.{flat_none, if_some, In, all_at, all_from, in_map, any_in, found_in, first_there, part_first, to_flat}
use Rattle.nntp_theory.proofs.{PointsByRank.{each, or_next, PointsOf, of_rank}, Given.{GivenHolds.{one_given}, ConstructedSpool.{made, made_group, made_given}}}
use Rattle.nntp_theory.proofs.{Together.ListedOverviews.{overview_at, overview_of, told_by}, Session.NumbersOfShownGroups.{Placed as IsPlaced}}
use Rattle.nntp_theory.proofs.{Session.{NumbersWithinLimit.{free_in_limit}, FittingFacts.{IsFitting}}, GivenNumbers.AsksDecided.{denied_or_not}}
use Rattle.nntp_theory.proofs.{GivenNumbers.AsksDecided.{too_many_or_not, unmet_or_met}, Conflicts.{with_told, told_together, told_fit}}
use Rattle.nntp_theory.{proofs.Ids.SmallGivenSpool.{names_of, shown_name, name_shown}, specs.Given.{asks_of, is_shown_group, first_given, id_in, head_in}}
use Rattle.nntp_theory.specs.{Given.{fields_in, body_in, is_known, is_denied, demand, IsGivenNumber, HasGivenNumbers}, Inner.Given.{size}}
use Rattle.nntp_theory.specs.{Inner.{Together.{IsWellFormed, AgreesWithItself, Together}, Conflict.{FitsThere}}, Together.{is_possible, MeetsDemand, IsFewFor}}
use Rattle.nntp_theory.specs.{Together.{denies_group, number_in, shows_article, denies_article, GiveOne}, Conflict.{Placed, told_with, SomeHas, Point, Step}}
use Rattle.nntp_theory.specs.Conflict.{Group, Number, Count, First, IdOf, PlaceOf, Article, HeadOf, BodyOf, FieldOf, words_told, ConflictAt, rank, IsFirstPoint}
use Rattle.std.proofs.Common.{◌≡◌, ℕ, ◌+◌, ◌<◌, ◌^◌, ◌⊎◌, false, IsTrue, List, [], ◌∷◌, map, Option, Some, inl, inr, refl, sym, ap, subst, ◌∙◌, arith, Bool}
use Rattle.std.{proofs.lemmas.Bool.{true≢false, cases_Bool, cases_eq, eqb-true, false_from_ne_true, cases_lt}, specs.Prelude.{IsFalse, IfSome, not}}
use Rattle.std.specs.{List.{AllByRecursion, list_any, flat_map}, Cmp.Lexicographic.{same_text}}
use Rattle.nntp_wire.specs.{declared.marks.Marks.{Marks, TheVariants.{Lenient}}, Listing.{OverviewValue, Fields}}
use Rattle.nntp_article.specs.{Article.{Fields.{Word, words_in}, Parts.{Id}}, Session.{Machine.{is_same}, Spool.{Name, Numbers, numbers}}}
use Rattle.nntp_article.specs.declared.{article.field.Field.{Field, TheVariants.{Subject, From, Date, References}}, session.profile.Profile.{Profile}}
use Rattle.nntp_said.{proofs.FiniteMapsDecided.{Dec, dec_if_some, dec_some, dec_texts, dec_lists, dec_all}, specs.{Asks.{Ask}, Facts.{Fact, IdAt, TextIs}}}
use Rattle.nntp_said.specs.Facts.{FieldsAre, OverviewsAre}

-- ---- what a fact gives

-- the numbers for which a fact shows ids
abbrev number_keys : Fact → List (Name × ℕ)
number_keys (IdAt name n id) = (name, n) ∷ []
number_keys (OverviewsAre name r os) = map (λ o. (name, o.number)) os
number_keys fact = []

-- the ids for which it shows numbers
abbrev place_keys : Fact → List (Name × Id)
place_keys (IdAt name n id) = (name, id) ∷ []
place_keys (OverviewsAre name r os) = map (λ o. (name, o.id)) os
place_keys fact = []

-- the ids whose articles it shows
abbrev article_keys : Fact → List Id
article_keys (IdAt name n id) = id ∷ []
article_keys (TextIs what id lines) = id ∷ []
article_keys (FieldsAre os) = map (λ o. o.id) os
article_keys (OverviewsAre name r os) = map (λ o. o.id) os
article_keys fact = []

-- the headers of an article
abbrev each_field : Id → List (Id × Field)
each_field id = (id, Subject) ∷ (id, From) ∷ (id, Date) ∷ (id, References) ∷ []

-- the headers of the articles that it shows
abbrev field_keys : Fact → List (Id × Field)
field_keys fact = flat_map each_field (article_keys fact)

-- two names or ids are the same, or tested not to be
same_or_not : (x y : List ℕ) → (is_same x y ≡ false) ⊎ (x ≡ y)
same_or_not x y = elim (cases_Bool (is_same x y)) [ inl t ↦ inr (same_text x y (sym t)) | inr f ↦ inl f ]

-- both pass, or where the one does, the other doesn't
both_or_apart : (a b : Bool) → (IsTrue a × IsTrue b) ⊎ (IsTrue a → IsFalse b)
both_or_apart a b = grind (arith, cases_Bool a, cases_Bool b, true≢false)

-- it gives something for those alone
number_keyed : (k : Name × ℕ) (fact : Fact) (id : Id) → id_in k.0 k.1 fact ≡ Some id → In k (number_keys fact)
number_keyed k (OverviewsAre g r os) id e =
    let o = overview_at g k.0 r os k.1 id e in
    subst (λ key. In key (number_keys (OverviewsAre g r os))) (λ i. (o.same_group i, o.same_number i)) (in_map (λ (o : OverviewValue). (g, o.number)) o.overview os o.there)
number_keyed k fact id e = grind (arith, same_or_not, eqb-true)

place_keyed : (k : Name × Id) (fact : Fact) (n : ℕ) → number_in k.0 k.1 fact ≡ Some n → In k (place_keys fact)
place_keyed k (OverviewsAre g r os) n e =
    let o = overview_of g k.0 r os k.1 n e in
    subst (λ key. In key (place_keys (OverviewsAre g r os))) (λ i. (o.same_group i, o.same_id i)) (in_map (λ (o : OverviewValue). (g, o.id)) o.overview os o.there)
place_keyed k fact n e = grind (arith, same_or_not)

fields_keyed : (id : Id) (fact : Fact) (fields : Fields) → fields_in id fact ≡ Some fields → In id (article_keys fact)
fields_keyed id (FieldsAre os) fields e = grind (arith, told_by os id fields e, in_map (λ (o : OverviewValue). o.id))
fields_keyed id (OverviewsAre name r os) fields e = grind (arith, told_by os id fields e, in_map (λ (o : OverviewValue). o.id))
fields_keyed id fact fields e = grind (arith, same_or_not)

words_keyed : (k : Id × Field) (fact : Fact) (words : List Word) → words_told k.0 k.1 fact ≡ Some words → In k (field_keys fact)
words_keyed k fact words e = grind (arith, to_flat each_field k.0 k (article_keys fact), fields_keyed k.0 fact)

-- ---- each kind of point

module _ (facts : List Fact) where
  -- facts conflict at a first point
  abbrev FirstPoint : Type 0
  FirstPoint = (point : Point) × IsFirstPoint facts point

  -- they don't there
  abbrev Free : Point → Type 0
  Free point = ConflictAt facts point → ⊥

  -- they don't at any point of a lower rank
  abbrev Below : ℕ → Type 0
  Below n = (other : Point) → rank other < n → Free other

  -- they do at one of that rank
  abbrev AtRank : ℕ → Type 0
  AtRank n = (point : Point) × (rank point ≡ n) × ConflictAt facts point

  -- where they don't at any of that rank, those of the next are looked at
  next : {A : Type 0} (n : ℕ) → Below n → AtRank n ⊎ A → (A → PointsOf Free n) → (A → Below (n + 1) → FirstPoint ⊎ Together facts) → FirstPoint ⊎ Together facts
  next n below (inl (point, same, conflict)) free rest = inl (point, record { conflict = conflict; first = λ other l. below other (subst (λ r. rank other < r) same l) })
  next n below (inr a) free rest = rest a (λ other l. elim (cases_lt (rank other) n) [ inl low ↦ below other low | inr le ↦ of_rank Free n (free a) other (omega arith) ])

  -- of one of the keys the one is so, or of each the other is
  each_key : {K : Type 0} (keys : List K) (C : Type 0) (P : K → Type 0) → ((k : K) → In k keys ⊎ P k) → ((k : K) → C ⊎ P k) → C ⊎ ((k : K) → P k)
  each_key keys C P own test = or_next (each C P keys (λ k i. test k)) (λ all. inr (λ k. elim (own k) [ inl i ↦ all_at P k keys all i | inr p ↦ p ]))

  -- it is given first
  abbrev IsFirst : {A : Type 0} → (Fact → Option A) → Fact → Type 0
  IsFirst f fact = IfSome (f fact) (λ x. first_given f facts ≡ Some x)

  -- what is given for each key is given first, or something is given twice
  each_given : {A K : Type 0} (keys : Fact → List K) (f : K → Fact → Option A) → ((x y : A) → Dec (x ≡ y)) → ((k : K) (fact : Fact) (x : A) → f k fact ≡ Some x → In k (keys fact))
      → (C : Type 0) → ((k : K) → (GiveOne (f k) facts → ⊥) → C) → C ⊎ ((k : K) → GiveOne (f k) facts)
  each_given {A} {K} keys f d keyed C point = each_key (flat_map keys facts) C (λ k. GiveOne (f k) facts)
      (λ k. each (In k (flat_map keys facts)) (IsFirst (f k)) facts (λ fact i. grind (arith, to_flat keys fact k facts i, keyed k fact)))
      (λ k. elim (dec_all (IsFirst (f k)) (λ fact. dec_if_some (f k fact) (dec_some d (first_given (f k) facts))) facts) [ inl one ↦ inr one | inr out ↦ inl (point k out) ])

  -- ---- groups

  -- of a group that is shown the one is so, or of each the other is
  each_group : (C : Type 0) (P : Name → Type 0) → ((name : Name) → IsTrue (is_shown_group facts name) → C ⊎ P name) → C ⊎ ((name : Name) → IsTrue (is_shown_group facts name) → P name)
  each_group C P test = or_next (each C P (names_of facts) (λ name i. test name (name_shown facts name i)))
      (λ all. inr (λ name t. all_at P name (names_of facts) all (shown_name facts name t)))

  module _ (how : Marks) (placed : AllByRecursion (IsPlaced how facts) facts)
      (given : (name : Name) → IsTrue (is_shown_group facts name) → (N : Numbers) × HasGivenNumbers (asks_of name facts) N) where
    -- of what is asked of a group the one is so, or of each the other is
    each_asked : (C : Type 0) (P : List Ask → Type 0) → P [] → ((name : Name) → IsTrue (is_shown_group facts name) → C ⊎ P (asks_of name facts)) → C ⊎ ((name : Name) → P (asks_of name facts))
    each_asked C P nothing test = or_next (each_group C (λ name. P (asks_of name facts)) test) (λ all. inr (λ name. elim (cases_Bool (is_shown_group facts name)) [
      | inl t ↦ all name t
      | inr f ↦ subst P (sym (grind (arith, flat_none, all_at, false_from_ne_true, true≢false, any_in))) nothing
    ]))

    -- ---- the kinds, in their order

    -- the first steps that can't be
    steps : AtRank 0 ⊎ ((name : Name) → IsFalse (list_any (λ ask. not (is_possible ask)) (asks_of name facts)))
    steps = each_asked (AtRank 0) (λ asks. IsFalse (list_any (λ ask. not (is_possible ask)) asks)) refl (λ name shown.
        elim (cases_Bool (list_any (λ ask. not (is_possible ask)) (asks_of name facts))) [ inl t ↦ inl (Step name, refl, t) | inr f ↦ inr f ])

    groups : AtRank 1 ⊎ ((name : Name) → IsTrue (is_shown_group facts name) → IsFalse (list_any (denies_group name) facts))
    groups = each_group (AtRank 1) (λ name. IsFalse (list_any (denies_group name) facts)) (λ name shown.
        elim (cases_Bool (list_any (denies_group name) facts)) [ inl t ↦ inl (Group name, refl, (shown, t)) | inr f ↦ inr f ])

    known_numbers : AtRank 2 ⊎ ((name : Name) (n : ℕ) → IsTrue (is_known (asks_of name facts) n) → IsFalse (is_denied (asks_of name facts) n))
    known_numbers = each_asked (AtRank 2) (λ asks. (n : ℕ) → IsTrue (is_known asks n) → IsFalse (is_denied asks n)) (λ n k. refl)
        (λ name shown. elim (denied_or_not (asks_of name facts) (given name shown).0 (given name shown).1) [ inl c ↦ inl (Number name c.0, refl, (c.1, c.2)) | inr all ↦ inr all ])

    counts : AtRank 3 ⊎ ((name : Name) (N : Numbers) → HasGivenNumbers (asks_of name facts) N → AllByRecursion (IsFewFor N) (asks_of name facts))
    counts = each_asked (AtRank 3) (λ asks. (N : Numbers) → HasGivenNumbers asks N → AllByRecursion (IsFewFor N) asks) (λ N g. tt) (λ name shown.
        elim (too_many_or_not (asks_of name facts) (given name shown).0 (given name shown).1) [ inl c ↦ inl (Count name, refl, c) | inr few ↦ inr few ])

    first_numbers : AtRank 4 ⊎ ((name : Name) → MeetsDemand (demand (asks_of name facts)) (IsGivenNumber (asks_of name facts)))
    first_numbers = each_asked (AtRank 4) (λ asks. MeetsDemand (demand asks) (IsGivenNumber asks)) tt (λ name shown.
        elim (unmet_or_met (asks_of name facts) (given name shown).0 (given name shown).1) [ inl c ↦ inl (First name, refl, c) | inr met ↦ inr met ])

    places : AtRank 6 ⊎ ((k : Name × Id) → GiveOne (number_in k.0 k.1) facts)
    places = each_given place_keys (λ k. number_in k.0 k.1) cases_eq place_keyed (AtRank 6) (λ k c. (PlaceOf k.0 k.1, refl, c))

    articles : AtRank 7 ⊎ ((id : Id) → IsTrue (list_any (shows_article id) facts) → IsFalse (list_any (denies_article id) facts))
    articles =
        each_key (flat_map article_keys facts) (AtRank 7) (λ id. IsTrue (list_any (shows_article id) facts) → IsFalse (list_any (denies_article id) facts))
        (λ id. elim (cases_Bool (list_any (shows_article id) facts)) [
          | inl t ↦ (let f = found_in (shows_article id) facts t in inl (to_flat article_keys f.0 id facts f.1 (grind (arith, same_or_not, found_in, in_map (λ (o : OverviewValue). o.id)))))
          | inr f ↦ inr (λ t. grind (arith, true≢false))
        ])
        (λ id. elim (both_or_apart (list_any (shows_article id) facts) (list_any (denies_article id) facts)) [ inl h ↦ inl (Article id, refl, h) | inr free ↦ inr free ])

    fields : AtRank 10 ⊎ ((k : Id × Field) → GiveOne (words_told k.0 k.1) facts)
    fields = each_given field_keys (λ k. words_told k.0 k.1) dec_lists words_keyed (AtRank 10) (λ k c. (FieldOf k.0 k.1, refl, c))

    -- where the words of each header are told in one way, so are all
    all_fields : ((k : Id × Field) → GiveOne (words_told k.0 k.1) facts) → (id : Id) → GiveOne (fields_in id) facts
    all_fields one id = all_from (IsFirst (fields_in id)) facts (λ fact i. if_some (fields_in id fact) (λ x. first_given (fields_in id) facts ≡ Some x) (λ x e.
        let z = first_there (fields_in id) facts fact x i e in
        let same : (field : Field) → words_in z.0 field ≡ words_in x field = λ field.
        grind (arith, part_first (λ x. words_in x field) (fields_in id) facts, one_given (words_told id field) facts (one (id, field)) fact i) in
        z.1 ∙ ap Some (λ i. record { subject = same Subject i; from = same From i; date = same Date i; references = same References i })))

    -- ---- all of them

    -- facts conflict at a first point, or stand together
    first_or_none : AllByRecursion IsWellFormed facts → AllByRecursion AgreesWithItself facts → FirstPoint ⊎ Together facts
    first_or_none formed lists =
        next 0 (λ other l. absurd (omega arith)) steps (λ s name h. true≢false (sym h ∙ s name)) (λ s below.
        next 1 below groups (λ g name h. true≢false (sym h.1 ∙ g name h.0)) (λ g below.
        next 2 below known_numbers (λ k name n h. true≢false (sym h.1 ∙ k name n h.0)) (λ k below.
        next 3 below counts (λ c name h. h.2 (c name h.0 h.1)) (λ c below.
        next 4 below first_numbers (λ m name h. h (m name)) (λ m below.
        next 5 below (each_given number_keys (λ k. id_in k.0 k.1) dec_texts number_keyed (AtRank 5) (λ k c. (IdOf k.0 k.1, refl, c))) (λ i name n h. h (i (name, n))) (λ i below.
        next 6 below places (λ p name id h. h (p (name, id))) (λ p below.
        next 7 below articles (λ a id h. true≢false (sym h.1 ∙ a id h.0)) (λ a below.
        next 8 below (each_given article_keys head_in dec_lists (λ id fact lines e. grind (arith, same_or_not)) (AtRank 8) (λ id c. (HeadOf id, refl, c))) (λ t id h. h (t id)) (λ t below.
        next 9 below (each_given article_keys body_in dec_lists (λ id fact lines e. grind (arith, same_or_not)) (AtRank 9) (λ id c. (BodyOf id, refl, c))) (λ o id h. h (o id)) (λ o below.
        next 10 below fields (λ w id field h. h (w (id, field))) (λ w below. inr (record {
          well_formed = formed;
          lists = lists;
          groups = g;
          numbers = λ name. record {
            possible = grind (arith, s name, all_from, cases_Bool, true≢false, any_in);
            not_denied = λ n is. elim is [ inl known ↦ k name n known | inr x ↦ x.first.1 ];
            demand_met = m name;
            few = c name;
          };
          ids = λ name n. i (name, n);
          ids_once = λ name id. p (name, id);
          articles = a;
          heads = t;
          fields = all_fields w;
          bodies = o;
        }))))))))))))

-- ---- the law

-- facts that fit and are placed stand together, or conflict at a first point
pub stand_or_conflict : (profile : Profile) (how : Marks) (facts : List Fact) → AllByRecursion (IsFitting profile) facts → AllByRecursion (IsPlaced how facts) facts → AllByRecursion IsWellFormed facts
    → ((point : Point) × IsFirstPoint facts point) ⊎ Together facts
stand_or_conflict profile how facts fitting placed formed = first_or_none facts how placed (λ name shown. (
  numbers (made profile.limit (10 ^ 64) facts) name,
  made_given profile.limit (10 ^ 64) facts name (λ e x. free_in_limit profile facts how fitting placed name shown e x.first.1) ((made_group profile.limit (10 ^ 64) facts name).1 shown),
)) formed (grind (arith, all_from, all_at))

-- what answers tell, each fitting where it stands, conflicts at a first point, if no spool has it
pub point_of_conflict : (profile : Profile) (bad : Placed) (answers : List Placed) (places : List ℕ) → FitsThere profile bad → AllByRecursion (FitsThere profile) answers
    → AllByRecursion IsWellFormed (told_with profile bad answers places) → size (told_with profile bad answers places) < 2 ^ 210
    → (SomeHas profile (told_with profile bad answers places) → ⊥) → (point : Point) × IsFirstPoint (told_with profile bad answers places) point
point_of_conflict profile bad answers places fit fits formed small none =
    grind (arith, with_told profile bad answers places fit fits, told_fit profile, stand_or_conflict profile Lenient, told_together profile)
