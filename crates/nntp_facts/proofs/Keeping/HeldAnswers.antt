-- What is held of answers that conflict: all but the last of them stand together.
use Rattle.nntp_facts.proofs.Base.{◌≡◌, ℕ, ◌<◌, ◌≤◌, ◌^◌, List, [], ◌∷◌, ◌++◌, Option, None, Some, length, Bool, IsTrue, arith, refl, sym, ap, subst}
use Rattle.nntp_facts.proofs.Base.{append-nil, inl, inr, and_parts, ⊤, AllByRecursion, list_all, option_map_or, is_ascending, Profile, Together, In, all_at}
use Rattle.nntp_facts.proofs.Base.{each_of, in_front, in_back, in_contains, contains_in, Kept, IsKept, slice_get, MatchOption, length-append, lines_in, Placed}
use Rattle.nntp_facts.proofs.Base.{SomeHas, IsFound, below, told_with, FitsThere, size, size-append, in_cases, AreHeld, places_of, nat_tests, nat_lt}
use Rattle.nntp_facts.proofs.{Keeping.{CoresFound.{nothing_together}, ToldAnswers.{told_size, with_place, fits_at}}, PointsFound.PointsChained.{none_at_all}}
use Rattle.nntp_facts.specs.Inner.{Told.{AreToldWith, PlacesTold}, Points.{Answers, with_numbers}}
use Rattle.nntp_theory.{proofs.Conflicts.{told_together, with_told, from_below}, specs.{Conflict.{told, IsCore, IsEndOfCore, Core}, Inner.Conflict.{HasLast}}}

-- ---- the last place

-- no places
pub no_places : (places : List ℕ) → length places ≡ 0 → places ≡ []
no_places [] e = refl
no_places (k ∷ places) e = absurd (omega (arith, e))

-- the last of two lists is the last of the second one, if there is one
last_of : (xs ys front : List ℕ) (k : ℕ) → 0 < length ys → xs ++ ys ≡ front ++ k ∷ [] → (ps : List ℕ) × (ys ≡ ps ++ k ∷ []) × (front ≡ xs ++ ps)
last_of [] ys front k some e = (front, e, refl)
last_of (x ∷ xs) [] front k some e = absurd (omega (arith, some))
last_of (x ∷ xs) (y ∷ ys) [] k some e = absurd (omega (arith, ap length e, length-append xs (y ∷ ys)))
last_of (x ∷ xs) (y ∷ ys) (f ∷ front) k some e =
    let rest : xs ++ y ∷ ys ≡ front ++ k ∷ [] = cc in
    grind (arith, last_of xs (y ∷ ys) front k some rest)

-- the last of ascending places is none of those before it
not_before : (ps : List ℕ) (k : ℕ) → IsTrue (is_ascending (ps ++ k ∷ [])) → In k ps → ⊥
not_before [] k up i = absurd i
not_before (j ∷ ps) k up i =
    let parts = and_parts (list_all (λ m. nat_lt j m) (ps ++ k ∷ [])) (is_ascending (ps ++ k ∷ [])) up in
    elim i [
      | inl e ↦ (let l = each_of (λ m. nat_lt j m) (ps ++ k ∷ []) k parts.0 (in_back k ps (k ∷ []) (inl refl)) in grind (arith, nat_tests, l, e))
      | inr more ↦ not_before ps k parts.1 more
    ]

module _ (profile : Profile) (bad : Placed) (answers : List Placed) where
  -- what was found of a core, whole or cut short
  abbrev Found : Option ℕ → List ℕ → Type 0
  Found rest places = MatchOption rest (IsCore profile bad answers places) (λ bound. IsEndOfCore profile bad answers bound places)

  -- all places of it conflict with the bad answer
  all_conflict : (rest : Option ℕ) (places : List ℕ) → Found rest places → SomeHas profile (told_with profile bad answers (option_map_or (λ bound. below bound ++ places) rest places)) → ⊥
  all_conflict None places found = found.conflict
  all_conflict (Some bound) places found = found.conflict

  pub core_conflicts : (core : Core) → IsFound profile bad answers core → SomeHas profile (told_with profile bad answers (places_of core)) → ⊥
  core_conflicts core is = all_conflict core.rest core.places is.found

  -- an answer stands at the last of them
  there : (rest : Option ℕ) (places front : List ℕ) (k : ℕ) → Found rest places → MatchOption rest ⊤ (λ bound. 0 < length places)
      → option_map_or (λ bound. below bound ++ places) rest places ≡ front ++ k ∷ [] → k < length answers
  there None places front k found some e =
      all_at (λ k. k < length answers) k places found.there (subst (In k) (sym e) (in_back k front (k ∷ []) (inl refl)))
  there (Some bound) places front k found some e =
      let last = last_of (below bound) places front k some e in
      (all_at (λ k. (bound ≤ k) × (k < length answers)) k places found.there (subst (In k) (sym last.1) (in_back k last.0 (k ∷ []) (inl refl)))).1

  pub last_there : (core : Core) (front : List ℕ) (k : ℕ) → IsFound profile bad answers core → HasLast core → places_of core ≡ front ++ k ∷ [] → k < length answers
  last_there core front k is some e = there core.rest core.places front k is.found some e

  -- without it they stand
  stand : (rest : Option ℕ) (places front : List ℕ) (k : ℕ) → IsTrue (is_ascending places) → Found rest places → MatchOption rest ⊤ (λ bound. 0 < length places)
      → option_map_or (λ bound. below bound ++ places) rest places ≡ front ++ k ∷ [] → (SomeHas profile (told_with profile bad answers front) → ⊥) → ⊥
  stand None places front k up found some e none = none (subst (λ places. SomeHas profile (told_with profile bad answers places)) (append-nil front) (found.needed front [] k e))
  stand (Some bound) places front k up found some e none =
      let last = last_of (below bound) places front k some e in
      let here = subst (In k) (sym last.1) (in_back k last.0 (k ∷ []) (inl refl)) in
      let low = (all_at (λ k. (bound ≤ k) × (k < length answers)) k places found.there here).0 in
      let whole = found.in_each front (λ j c. contains_in j (below bound ++ places) (subst (In j) (sym e) (in_front j front (k ∷ []) (in_contains j front c)))) none k (contains_in k places here) in
      elim (in_cases k (below bound) last.0 (subst (In k) last.2 (in_contains k front whole))) [
        | inl below-it ↦ (let l = from_below k bound below-it in omega (arith, l, low))
        | inr before ↦ not_before last.0 k (subst (λ places. IsTrue (is_ascending places)) last.1 up) before
      ]

  pub others_stand : (core : Core) (front : List ℕ) (k : ℕ) → IsFound profile bad answers core → HasLast core → places_of core ≡ front ++ k ∷ []
      → (SomeHas profile (told_with profile bad answers front) → ⊥) → ⊥
  others_stand core front k is some e none = stand core.rest core.places front k is.ascending is.found some e none

  -- so they are told
  pub told_front : (front : List ℕ) (k : Kept) (does : Bool) → ((SomeHas profile (told_with profile bad answers front) → ⊥) → ⊥) → PlacesTold profile bad answers front k does
      → AreToldWith profile bad answers front k
  told_front front k does stand told = grind arith

-- ---- what is held

module _ (profile : Profile) (bad : Placed) (answers : List Placed) (fits : AllByRecursion (FitsThere profile) (bad ∷ answers)) where
  -- what stands together is had by some spool, if it is little
  had : (places : List ℕ) → size (told_with profile bad answers places) < 2 ^ 210 → Together (told_with profile bad answers places) → SomeHas profile (told_with profile bad answers places)
  had places small together = (told_together profile (told_with profile bad answers places) (with_told profile bad answers places fits.0 fits.1) small).1 together

  -- of a bad answer that conflicts with itself
  pub held_alone : (SomeHas profile (told_with profile bad answers []) → ⊥) → lines_in bad.response < 2 ^ 64 → (held : Answers) → held.profile ≡ profile → IsKept [] held.kept
      → held.last ≡ with_numbers bad → AreHeld profile (told_with profile bad answers []) held
  held_alone conflict few held judged kept listed = record {
    judged = judged;
    last = bad;
    listed = listed;
    fits = fits.0;
    facts = [];
    kept = kept;
    together = nothing_together profile;
    whole = sym (append-nil (told profile bad));
    conflict = λ formed none. conflict (had [] (grind (arith, told_size, append-nil)) (none_at_all profile bad answers [] fits formed none));
  }

  -- of one that conflicts with others
  pub held_behind : (front : List ℕ) (k : ℕ) → (SomeHas profile (told_with profile bad answers (front ++ k ∷ [])) → ⊥) → (last : Placed) → slice_get answers k ≡ Some last
      → lines_in last.response < 2 ^ 64 → length front < 2 ^ 66 → (held : Answers) → held.profile ≡ profile → AreToldWith profile bad answers front held.kept → held.last ≡ with_numbers last
      → AreHeld profile (told_with profile bad answers (front ++ k ∷ [])) held
  held_behind front k conflict last at few short held judged told_front listed = record {
    judged = judged;
    last = last;
    listed = listed;
    fits = fits_at profile answers k last fits.1 at;
    facts = told_with profile bad answers front;
    kept = told_front.kept;
    together = told_front.together;
    whole = whole;
    conflict = λ formed none. conflict (had (front ++ k ∷ []) small (none_at_all profile bad answers (front ++ k ∷ []) fits formed none));
  }
    where
      whole : told_with profile bad answers front ++ told profile last ≡ told_with profile bad answers (front ++ k ∷ [])
      whole = with_place profile bad answers front k (told profile last) (ap (λ o. option_map_or (told profile) o []) at)

      small : size (told_with profile bad answers (front ++ k ∷ [])) < 2 ^ 210
      small = grind (arith, told_size profile last few, size-append (told_with profile bad answers front) (told profile last), told_front.small, whole)
