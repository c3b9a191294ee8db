-- What overviews of a range say of the numbers and ids of their group.
use Rattle.nntp_kept.proofs.Base.{or-false, ◌≡◌, ℕ, cond, List, [], ◌∷◌, ◌++◌, None, inl, refl, arith, and_parts, OverviewValue, Range, Id, Name, is_same}
use Rattle.nntp_kept.proofs.Base.{is_ascending, overview_numbers, ListsIn, OverviewsAre, asks_of, first_given, id_in, fields_of_overview, number_in, said_of}
use Rattle.nntp_kept.proofs.Base.{AgreesWithItself, each_of, in_map, in_back, or_none, HaveOwn, id_listed, place_listed, said_listed, apart_agree}
use Rattle.nntp_article.specs.Session.Machine.{all_differ, overview_ids}

-- what one list of overviews says
module _ (here : Name) (r : Range) (os : List OverviewValue) where
  pub listed_asks : (name : Name) → asks_of name (OverviewsAre here r os ∷ []) ≡ cond (is_same here name) (ListsIn r (overview_numbers os) ∷ []) []
  listed_asks name = grind arith

  pub listed_ids : (name : Name) (n : ℕ) → first_given (id_in name n) (OverviewsAre here r os ∷ []) ≡ cond (is_same here name) (id_listed os n) None
  listed_ids name n = or_none (id_in name n (OverviewsAre here r os))

  pub listed_places : (name : Name) (id : Id) → first_given (number_in name id) (OverviewsAre here r os ∷ []) ≡ cond (is_same here name) (place_listed os id) None
  listed_places name id = or_none (number_in name id (OverviewsAre here r os))

  pub listed_said : (id : Id) → said_of (OverviewsAre here r os ∷ []) id ≡ said_listed os id
  listed_said id = grind (arith, or-false, or_none)

-- where each has a number and an id of its own, they agree with one another
pub own_agree : (here : Name) (r : Range) (os : List OverviewValue) → HaveOwn os → AgreesWithItself (OverviewsAre here r os)
own_agree here r os own = apart_agree here r os own.numbers own.ids

-- those in front of one give neither its number an id, nor its id a number, and tell nothing of its article
pub none_in_front : (front : List OverviewValue) (o : OverviewValue) (rest : List OverviewValue) → HaveOwn (front ++ o ∷ rest)
    → (id_listed front o.number ≡ None) × (place_listed front o.id ≡ None) × (first_given (fields_of_overview o.id) front ≡ None)
none_in_front [] o rest own = (refl, refl, refl)
none_in_front (x ∷ front) o rest own =
    let numbers = and_parts _ (is_ascending (overview_numbers (front ++ o ∷ rest))) own.numbers in
    let ids = and_parts _ (all_differ (overview_ids (front ++ o ∷ rest))) own.ids in
    let there = in_back o front (o ∷ rest) (inl refl) in
    let less = each_of _ _ o.number numbers.0 (in_map (λ (o : OverviewValue). o.number) o _ there) in
    let other = each_of _ _ o.id ids.0 (in_map (λ (o : OverviewValue). o.id) o _ there) in
    grind (arith, less, other, none_in_front front o rest (record { numbers = numbers.1; ids = ids.1 }))
