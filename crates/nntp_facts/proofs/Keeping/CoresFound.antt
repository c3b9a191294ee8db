-- Finding the answers with which a bad one conflicts.
use Rattle.nntp_facts.proofs.Base.{arith, ◌+◌, ◌^◌, ◌<◌, ◌≤◌, ◌≡◌, ℕ, Bool, true, false, IsTrue, Option, None, Some, inl, inr, refl, sym, ap, subst, ◌∙◌, List}
use Rattle.nntp_facts.proofs.Base.{[], ◌∷◌, ◌++◌, length, append-nil, append_assoc, take, get_or, and_from, cases_lt, AllByRecursion, is_ascending, Profile}
use Rattle.nntp_facts.proofs.Base.{Together, In, all_at, all_from, in_front, in_back, contains_in, in_contains, Kept, MatchOption, zero, suc, length-append}
use Rattle.nntp_facts.proofs.Base.{FitsThere, Placed, told_with, SomeHas, below, IsFound, in_cases, IsPartOfCore, none_permitted, take_more, then_some}
use Rattle.nntp_facts.specs.Inner.Told.{AreTold, AreToldWith, PlacesTold}
use Rattle.nntp_theory.proofs.{Together.FactsOfASpoolStand.{stand}, Conflicts.{with_told, told_together, fewer_places, core_step, core_done, found_in_each}}
use Rattle.nntp_theory.{proofs.Members.{every}, specs.{Conflict.{told}, Inner.Conflict.{AreFound}}}

-- ---- places

-- there are so many below a bound
below_length : (n : ℕ) → length (below n) ≡ n
below_length zero = refl
below_length (suc n) = omega (arith, length-append (below n) (n ∷ []), below_length n)

-- the order of two lists of places doesn't matter
swapped : (xs ys : List ℕ) (k : ℕ) → In k (xs ++ ys) → In k (ys ++ xs)
swapped xs ys k i = elim (in_cases k xs ys i) [ inl j ↦ in_back k ys xs j | inr j ↦ in_front k ys xs j ]

-- one place more below
below_more : (places : List ℕ) (place : ℕ) → (places ++ below place) ++ place ∷ [] ≡ places ++ below (place + 1)
below_more places place = let next : suc place ≡ place + 1 = omega arith in append_assoc places (below place) (place ∷ []) ∙ ap (λ n. places ++ below n) next

-- one of the first places is one of them
taken : (k : ℕ) (n : ℕ) (places : List ℕ) → In k (take n places) → In k places
taken k zero places i = absurd i
taken k (suc n) s i = grind (arith, taken k n)

-- those that are found ascend from the bound on
found_from : (Stand : List ℕ → Type 0) (bound : ℕ) (places : List ℕ) → AreFound Stand bound places → (k : ℕ) → In k places → bound ≤ k
found_from Stand bound [] f k i = absurd i
found_from Stand bound (j ∷ places) f k s = grind (arith, found_from Stand (j + 1) places f.2 k)

-- each is below the next
pub found_ascend : (Stand : List ℕ → Type 0) (bound : ℕ) (places : List ℕ) → AreFound Stand bound places → IsTrue (is_ascending places)
found_ascend Stand bound [] f = refl
found_ascend Stand bound (j ∷ places) f = grind (arith, and_from, every, found_from, found_ascend Stand (j + 1) places f.2)

-- so they are few
found_few : (Stand : List ℕ → Type 0) (bound n : ℕ) (places : List ℕ) → bound ≤ n → AreFound Stand bound places → AllByRecursion (λ k. k < n) places → length places + bound ≤ n
found_few Stand bound n [] le f there = omega (arith, le)
found_few Stand bound n (j ∷ places) le f there = omega (arith, f.0, found_few Stand (j + 1) n places (omega (arith, there.0)) f.2 there.1)

-- ---- what is told

-- nothing stands together
pub nothing_together : (profile : Profile) → Together []
nothing_together profile = let n = none_permitted profile [] [] in stand profile.limit n.0 [] n.1 tt

-- of a bad answer alone
pub bad_told : (profile : Profile) (bad : Placed) (answers : List Placed) (new : Kept) (does : Bool) → AreTold profile [] (told profile bad) new does → PlacesTold profile bad answers [] new does
bad_told profile bad answers new true t = grind (arith, append-nil)
bad_told profile bad answers new false none = subst (λ facts. SomeHas profile facts → ⊥) (sym (append-nil (told profile bad))) none

module _ (profile : Profile) (bad : Placed) (answers : List Placed) where
  -- what conflicts with a front of the places conflicts with all
  pub more_conflict : (front places : List ℕ) → ((k : ℕ) → In k front → In k places) → (SomeHas profile (told_with profile bad answers front) → ⊥)
      → SomeHas profile (told_with profile bad answers places) → ⊥
  more_conflict front places sub none h = none (fewer_places profile bad answers front places sub h)

  -- of the places one after the other
  pub next_told : (places : List ℕ) (i : ℕ) (new : Kept) (does : Bool) → i < length places → PlacesTold profile bad answers (take i places ++ get_or places i 0 ∷ []) new does
      → PlacesTold profile bad answers (take (i + 1) places) new does
  next_told places i new does l t = subst (λ these. PlacesTold profile bad answers these new does) (sym (take_more places i 0 l)) t

  -- where one of them doesn't stand, all don't
  pub next_conflict : (places : List ℕ) (i : ℕ) → (SomeHas profile (told_with profile bad answers (take i places)) → ⊥) → SomeHas profile (told_with profile bad answers places) → ⊥
  next_conflict places i none = more_conflict (take i places) places (λ k j. taken k i places j) none

  -- they are handed on where they stand
  pub kept_where_told : (places : List ℕ) (k : Kept) (does : Bool) (o : Option Kept) → o ≡ then_some does k → PlacesTold profile bad answers places k does
      → MatchOption o (SomeHas profile (told_with profile bad answers places) → ⊥) (AreToldWith profile bad answers places)
  kept_where_told places k does o is t = grind arith

  -- of all of them, where they are kept
  pub kept_told : (o : Option Kept) (k : Kept) (these places : List ℕ) → o ≡ Some k → these ≡ places
      → MatchOption o (SomeHas profile (told_with profile bad answers these) → ⊥) (AreToldWith profile bad answers these) → AreToldWith profile bad answers places k
  kept_told o k these places is same t = grind arith

  -- where they aren't, they conflict
  pub none_kept : (o : Option Kept) (these places : List ℕ) → ((k : Kept) → o ≡ Some k → ⊥) → these ≡ places
      → MatchOption o (SomeHas profile (told_with profile bad answers these) → ⊥) (AreToldWith profile bad answers these) → SomeHas profile (told_with profile bad answers places) → ⊥
  none_kept None these places none same t = subst (λ places. SomeHas profile (told_with profile bad answers places) → ⊥) same t
  none_kept (Some k) these places none same t = absurd (none k refl)

  -- those below a place one after the other
  pub below_told : (places : List ℕ) (place : ℕ) (k : Kept) → AreToldWith profile bad answers ((places ++ below place) ++ place ∷ []) k
      → AreToldWith profile bad answers (places ++ below (place + 1)) k
  below_told places place k t = subst (λ these. AreToldWith profile bad answers these k) (below_more places place) t

  module _ (fit : FitsThere profile bad) (fits : AllByRecursion (FitsThere profile) answers) where
    -- what is told stands: some spool has it
    pub had : (places : List ℕ) (k : Kept) → length places < 2 ^ 66 → AreToldWith profile bad answers places k → SomeHas profile (told_with profile bad answers places)
    had places k few t =
        (told_together profile (told_with profile bad answers places) (with_told profile bad answers places fit fits) (omega (arith, t.small, few))).1 t.together

    module _ (bound : ℕ) (places : List ℕ) (within : bound ≤ length answers) (short : length answers < 2 ^ 64) (p : IsPartOfCore profile bad answers bound places) where
      -- those that are found are few
      few : length places < 2 ^ 64
      few = let all = found_few (λ places. SomeHas profile (told_with profile bad answers places)) bound (length answers) places within p.found p.there in omega (arith, all, short)

      -- they stand alone, once they are told
      pub alone : (k : Kept) → AreToldWith profile bad answers places k → SomeHas profile (told_with profile bad answers places)
      alone k t = had places k (let l = few in omega (arith, l)) t

      -- and with those below a place
      with_below : (k : Kept) (place : ℕ) → place ≤ bound → AreToldWith profile bad answers (places ++ below place) k → SomeHas profile (told_with profile bad answers (below place ++ places))
      with_below k place le t =
          fewer_places profile bad answers (below place ++ places) (places ++ below place) (swapped (below place) places)
          (had (places ++ below place) k (let l = few in let count = length-append places (below place) in let low = below_length place in omega (arith, l, count, low, le, within, short)) t)

      -- where the next one breaks it, that one is found
      pub place_found : (k : Kept) (place : ℕ) → place < bound → AreToldWith profile bad answers (places ++ below place) k
          → (SomeHas profile (told_with profile bad answers ((places ++ below place) ++ place ∷ [])) → ⊥) → IsPartOfCore profile bad answers place (place ∷ places)
      place_found k place l t none =
          core_step profile bad answers bound place places p l within (with_below k place (omega (arith, l)) t)
          (more_conflict ((places ++ below place) ++ place ∷ []) (below (place + 1) ++ places)
          (λ j i. swapped places (below (place + 1)) j (subst (In j) (below_more places place) i)) none)

      -- where all others stand, the last one is
      pub last_found : (k : Kept) (last : ℕ) → bound ≡ last + 1 → AreToldWith profile bad answers (places ++ below last) k → IsPartOfCore profile bad answers last (last ∷ places)
      last_found k last e t =
          core_step profile bad answers bound last places p (omega (arith, e)) within (with_below k last (omega (arith, e)) t)
          (subst (λ n. SomeHas profile (told_with profile bad answers (below n ++ places)) → ⊥) e p.conflict)

      -- what stands alone isn't all of it
      pub some_left : (k : Kept) → AreToldWith profile bad answers places k → 0 < bound
      some_left k t = elim (cases_lt 0 bound) [
        | inl some ↦ some
        | inr le ↦ absurd ((let e : bound ≡ 0 = omega (arith, le) in subst (λ n. SomeHas profile (told_with profile bad answers (below n ++ places)) → ⊥) e p.conflict) (alone k t))
      ]

      -- all of it
      pub whole_found : (SomeHas profile (told_with profile bad answers places) → ⊥) → IsFound profile bad answers (record { places = places; rest = None })
      whole_found none = grind (arith, found_ascend, core_done)

      -- the end of it
      pub end_found : SomeHas profile (told_with profile bad answers places) → IsFound profile bad answers (record { places = places; rest = Some bound })
      end_found stand = record {
        ascending = found_ascend (λ places. SomeHas profile (told_with profile bad answers places)) bound places p.found;
        found = record {
          there = grind (arith, all_from, found_from, all_at);
          conflict = p.conflict;
          stand = stand;
          in_each = search (contains_in, found_in_each, in_contains);
        };
      }
