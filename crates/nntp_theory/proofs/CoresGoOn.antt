-- What was found of a core stays so behind further answers.
use Rattle.std.proofs.Common.{◌≡◌, ℕ, suc, ◌<◌, ◌≤◌, List, [], ◌∷◌, ◌++◌, Option, None, Some, length, length-append, slice_get, arith, refl, sym, ap, subst}
use Rattle.std.specs.{Prelude.{⊤, MatchOption}, List.{AllByRecursion, flat_map}, Option.{option_map_or}}
use Rattle.nntp_article.specs.declared.session.profile.Profile.{Profile}
use Rattle.nntp_theory.specs.Conflict.{Placed, SomeHas, IsCore, IsEndOfCore, IsFound, Core, places_of, below, told, told_at, told_with}
use Rattle.nntp_theory.{specs.Inner.Conflict.{HasLast}, proofs.{Conflicts.{from_below}, Members.{all_at, all_both, all_from, all_front, all_back, contains_in}}}
use Rattle.nntp_theory.proofs.Members.{in_contains}

-- the front of a list has its places
pub in_front_of : {A : Type 0} (xs more : List A) (k : ℕ) → k < length xs → slice_get (xs ++ more) k ≡ slice_get xs k
in_front_of (x ∷ xs) more (suc k) l = in_front_of xs more k (omega (arith, l))
in_front_of xs more k l = grind arith

-- places at which answers stand
abbrev pub AreThere : {A : Type 0} → List A → List ℕ → Type 0
AreThere answers places = AllByRecursion (λ k. k < length answers) places

module _ (profile : Profile) (bad : Placed) (answers more : List Placed) where
  told_there : (places : List ℕ) → AreThere answers places → flat_map (told_at profile (answers ++ more)) places ≡ flat_map (told_at profile answers) places
  told_there [] there = refl
  told_there (k ∷ places) there = grind (arith, in_front_of, told_there places there.1)

  -- they say the same
  pub told_still : (places : List ℕ) → AreThere answers places → told_with profile bad (answers ++ more) places ≡ told_with profile bad answers places
  told_still places there = ap (λ facts. told profile bad ++ facts) (told_there places there)

  -- so they stand as before
  still : (places : List ℕ) → AreThere answers places → SomeHas profile (told_with profile bad answers places) → SomeHas profile (told_with profile bad (answers ++ more) places)
  still places there h = subst (SomeHas profile) (sym (told_still places there)) h

  core_still : (places : List ℕ) → IsCore profile bad answers places → IsCore profile bad (answers ++ more) places
  core_still places core = record {
    there = all_from (λ k. k < length (answers ++ more)) places (λ k i. (let both = length-append answers more in omega (arith, (all_at (λ k. k < length answers) k places core.there i), both)));
    conflict = λ h. core.conflict (subst (SomeHas profile) (told_still places core.there) h);
    needed = λ front back k e. still (front ++ back) (grind (arith, core.there, all_both, all_front, all_back)) (core.needed front back k e);
  }

  module _ (bound : ℕ) (places : List ℕ) (some : 0 < length places) (end : IsEndOfCore profile bad answers bound places) where
    -- the bound is at a place of these
    pub bound_there : bound < length answers
    bound_there = elim places as (λ places. 0 < length places → AllByRecursion (λ k. (bound ≤ k) × (k < length answers)) places → bound < length answers)
        [ [] ↦ λ some there. absurd (omega arith) | k ∷ places ↦ λ some there. grind arith ] some end.there

    pub all_there : AreThere answers (below bound ++ places)
    all_there = grind (arith, all_both, all_from, from_below, bound_there, all_at)

    end_still : IsEndOfCore profile bad (answers ++ more) bound places
    end_still = record {
      there = all_from (λ k. (bound ≤ k) × (k < length (answers ++ more))) places (λ k i. grind (arith, all_at (λ k. (bound ≤ k) × (k < length answers)) k places end.there i, length-append));
      conflict = λ h. end.conflict (subst (SomeHas profile) (told_still (below bound ++ places) all_there) h);
      stand = still places (grind (arith, all_from, all_at)) end.stand;
      in_each = λ these among none. end.in_each these among (λ h. none (still these (all_from (λ k. k < length answers) these
          (λ k i. grind (arith, all_at (λ k. k < length answers) k (below bound ++ places) all_there, in_contains, among k, contains_in k these i))) h));
    }

  pub core_goes_on : (core : Core) → HasLast core → IsFound profile bad answers core → IsFound profile bad (answers ++ more) core
  core_goes_on core some is = grind (arith, core_still, end_still)

  all_of : (rest : Option ℕ) (places : List ℕ) → MatchOption rest ⊤ (λ bound. 0 < length places)
      → MatchOption rest (IsCore profile bad answers places) (λ bound. IsEndOfCore profile bad answers bound places) → AreThere answers (option_map_or (λ bound. below bound ++ places) rest places)
  all_of None places some core = core.there
  all_of (Some bound) places some end = all_there bound places some end

  -- answers stand at all its places
  pub places_there : (core : Core) → HasLast core → IsFound profile bad answers core → AreThere answers (places_of core)
  places_there core some is = all_of core.rest core.places some is.found
