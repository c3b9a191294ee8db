-- An interval that takes the place of those that it meets.
use Rattle.std.proofs.Common.{◌≡◌, ◌⊎◌, inl, inr, ℕ, ◌+◌, ◌-◌, ◌^◌, ◌<◌, ◌≤◌, true, false, cond, Option, None, Some, List, sym, ap, subst, ◌∙◌, arith}
use Rattle.std.{proofs.lemmas.Bool.{or_cases, cases_lt, true≢false, Decides.{nat_tests, same_from_decides}}, specs.Prelude.{◌||◌, ◌↔◌, Bool, IsTrue}}
use Rattle.std.specs.{Ordering.{nat_cmp, is_eq}, BTreeMap.{BTreeMap, get, IsOrdered}}
use Rattle.nntp_intervals.specs.Inner.{Intervals.{holds, is_between, AreApart, IsInterval, Covers}, Neighbours.{IsFirstJoined, IsLastJoined, is_within}}
use Rattle.nntp_intervals.proofs.LookUps.{last_at, Ascends, Apart, held_from, held_at, apart_at, are_apart}

abbrev IsBeside : ℕ → ℕ → ℕ → Type 0
IsBeside start end s = (s < start) ⊎ (end < s)

-- the joined interval, and the old ones before it and behind it
pub record IsJoined (old : ℕ → Option ℕ) (start end : ℕ) (new : ℕ → Option ℕ) : Type 0 where
  pub here : new start ≡ Some end
  pub stays : (s e : ℕ) → old s ≡ Some e → IsBeside start end s → new s ≡ Some e
  pub only : (s e : ℕ) → new s ≡ Some e → ((s ≡ start) × (e ≡ end)) ⊎ ((old s ≡ Some e) × IsBeside start end s)

module _ (set : List (ℕ × ℕ)) (up : Ascends set) (apart : Apart (last_at set)) (first last start end : ℕ) (asc : first ≤ last) (fits : end < 2 ^ 64)
    (front : IsFirstJoined set first start) (back : IsLastJoined set last end) where
  -- an old interval that begins before the joined one ends a number before it
  before_start : (s e : ℕ) → last_at set s ≡ Some e → s < start → e + 1 < start
  before_start s e at lt = grind (arith, held_from set s e (start - 1) at, front.free_before (start - 1))

  -- one that begins behind it begins a number behind it
  behind_end : (s e : ℕ) → last_at set s ≡ Some e → end < s → end + 1 < s
  behind_end s e at lt = let (le, small) = apart.interval s e at in grind (arith, held_from set s e (end + 1) at, back.free_behind)

  -- one that begins in it ends in it
  within_end : (s e : ℕ) → last_at set s ≡ Some e → s ≤ end → e ≤ end
  within_end s e at lt = let (le, small) = apart.interval s e at in grind (arith, held_from set s e (end + 1) at, back.free_behind)

  module _ (new : List (ℕ × ℕ)) (up_new : Ascends new) (joined : IsJoined (last_at set) start end (last_at new)) where
    begins : start ≤ first
    begins = front.begins

    ends : last ≤ end
    ends = back.ends

    interval_new : (s e : ℕ) → last_at new s ≡ Some e → IsInterval (s, e)
    interval_new s e at = let lo = begins in let hi = ends in grind (arith, joined.only s e at, apart.interval s e, fits)

    apart_new : (s e t f : ℕ) → last_at new s ≡ Some e → last_at new t ≡ Some f → s < t → e + 1 < t
    apart_new s e t f at at2 lt =
        let lo = begins in
        let hi = ends in
        grind (arith, joined.only s e at, joined.only t f at2, before_start s e, behind_end t f, apart.apart s e t f)

    -- the new intervals are apart
    pub are_apart_new : AreApart new
    are_apart_new = are_apart new up_new (record { interval = interval_new; apart = apart_new })

    -- what the joined interval holds was held, or is added
    within : (n : ℕ) → start ≤ n → n ≤ end → (holds set n || is_between first last n) ≡ true
    within n lo hi = grind (arith, nat_tests, front.held n lo, back.held n, hi)

    forth : (n : ℕ) → holds new n ≡ true → (holds set n || is_between first last n) ≡ true
    forth n h =
        let (s, e, at, lo, hi) = held_at new n up_new h in
        grind (arith, joined.only s e at, within n, held_from set s e n)

    back_new : (n : ℕ) → (holds set n || is_between first last n) ≡ true → holds new n ≡ true
    back_new n h = by (or_cases (holds set n) (is_between first last n) h)
      where
        here : start ≤ n → n ≤ end → holds new n ≡ true
        here lo hi = held_from new start end n joined.here lo hi

        by : (holds set n ≡ true) ⊎ (is_between first last n ≡ true) → holds new n ≡ true
        by (inl held) = let (s, e, old, lo, hi) = held_at set n up held in grind (arith, within_end s e old, joined.stays s e old, held_from new s e n, here)
        by (inr added) = let l = begins in let r = ends in grind (arith, nat_tests, here, added)

    -- they hold what was held, and what is added
    pub holds_new : (n : ℕ) → holds new n ≡ (holds set n || is_between first last n)
    holds_new n = same_from_decides {P = holds new n ≡ true} (holds new n) (holds set n || is_between first last n) (λ h. h, λ h. h) (λ h. back_new n h, λ h. forth n h)

-- the interval is inserted, and those that begin in it are removed
pub is_joined : (old mid new : ℕ → Option ℕ) (start end : ℕ) → start ≤ end
    → ((q : ℕ) → mid q ≡ cond (is_eq (nat_cmp start q)) (Some end) (old q))
    → ((q : ℕ) → new q ≡ cond (is_within start end q) None (mid q))
    → IsJoined old start end new
is_joined old mid new start end asc put gone = record {
  here = grind (arith, nat_tests, gone start, put start);
  stays = λ s e at beside. grind (arith, nat_tests, gone s, put s);
  only = λ s e at. grind (arith, nat_tests, gone s, put s);
}

-- where not all of a range is in the set, there is a number in it
pub uncovered : (set : List (ℕ × ℕ)) (first last : ℕ) (b : Bool) → IsTrue b ↔ Covers set first last → b ≡ false → first ≤ last
uncovered set first last b covers none = elim (cases_lt last first) [
  | inl lt ↦ absurd (true≢false (sym (covers.1 (λ n lo hi. absurd (omega arith))) ∙ none))
  | inr le ↦ le
]

-- the new intervals are apart, and hold what was held, and what is added
abbrev pub IsUnion : List (ℕ × ℕ) → List (ℕ × ℕ) → ℕ → ℕ → Type 0
IsUnion set new first last = AreApart new × ((n : ℕ) → holds new n ≡ (holds set n || is_between first last n))

-- what the set is after the interval was inserted, and those that begin in it were removed
pub inserted : (old mid new : BTreeMap ℕ ℕ) (set : List (ℕ × ℕ)) (first last start end : ℕ) → old.entries ≡ set → AreApart old.entries → IsOrdered nat_cmp old → IsOrdered nat_cmp new
    → first ≤ last → end < 2 ^ 64 → IsFirstJoined set first start → IsLastJoined set last end
    → ((q : ℕ) → get nat_cmp mid q ≡ cond (is_eq (nat_cmp start q)) (Some end) (get nat_cmp old q))
    → ((q : ℕ) → get nat_cmp new q ≡ cond (is_within start end q) None (get nat_cmp mid q))
    → IsUnion set new.entries first last
inserted old mid new set first last start end is apart up up_new asc fits front back put gone =
    let lo = front.begins in
    let hi = back.ends in
    let le : start ≤ end = omega arith in
    let joined = is_joined (last_at old.entries) (last_at mid.entries) (last_at new.entries) start end le put gone in
    let front_old = subst (λ set. IsFirstJoined set first start) (sym is) front in
    let back_old = subst (λ set. IsLastJoined set last end) (sym is) back in
    let at = apart_at old.entries apart in (
      are_apart_new old.entries up at first last start end asc fits front_old back_old new.entries up_new joined,
      λ n. holds_new old.entries up at first last start end asc fits front_old back_old new.entries up_new joined n ∙ ap (λ set. holds set n || is_between first last n) is,
    )
