-- Which numbers are held, and whether the intervals are apart, by what a look-up finds at each first number.
use Rattle.std.proofs.{Common.{◌≡◌, ◌⊎◌, inl, inr, ℕ, ◌+◌, ◌<◌, ◌≤◌, true, Option, Some, List, [], ◌∷◌, arith}, lemmas.Bool.{or_cases, Decides.{nat_tests}}}
use Rattle.std.specs.{Ordering.{nat_cmp, is_eq}, declared.cmp.Ordering.TheVariants.{Less}, List.{AllByRecursion, Sorted.{IsStrictlySortedBy}}, Map.{lookup}}
use Rattle.std.specs.Map.{keys_of}
use Rattle.nntp_intervals.specs.Inner.Intervals.{holds, is_between, IsInterval, AreApart}

-- the last number of the interval that begins at first
abbrev pub last_at : List (ℕ × ℕ) → ℕ → Option ℕ
last_at set first = lookup (λ k. is_eq (nat_cmp first k)) set

abbrev pub Ascends : List (ℕ × ℕ) → Type 0
Ascends set = IsStrictlySortedBy nat_cmp (keys_of set)

-- what is found is the first interval's, or is found behind it
found_cases : (i : ℕ × ℕ) (is : List (ℕ × ℕ)) (s e : ℕ) → last_at (i ∷ is) s ≡ Some e → ((s ≡ i.0) × (e ≡ i.1)) ⊎ (last_at is s ≡ Some e)
found_cases i is s e h = grind (arith, nat_tests)

found_here : (i : ℕ × ℕ) (is : List (ℕ × ℕ)) → last_at (i ∷ is) i.0 ≡ Some i.1
found_here i is = grind (arith, nat_tests)

-- what is found behind an interval begins behind it
behind : (n : ℕ) (is : List (ℕ × ℕ)) (s e : ℕ) → AllByRecursion (λ k. nat_cmp n k ≡ Less) (keys_of is) → last_at is s ≡ Some e → n < s
behind n [] s e all h = cc
behind n (i ∷ is) s e all h = grind (arith, nat_tests, found_cases i is s e h, behind n is s e all.1, all.0)

past : (i : ℕ × ℕ) (is : List (ℕ × ℕ)) (s e : ℕ) → i.0 < s → last_at is s ≡ Some e → last_at (i ∷ is) s ≡ Some e
past i is s e lt h = grind (arith, nat_tests)

found_later : (i : ℕ × ℕ) (is : List (ℕ × ℕ)) (s e : ℕ) → Ascends (i ∷ is) → last_at is s ≡ Some e → last_at (i ∷ is) s ≡ Some e
unfolding IsStrictlySortedBy
found_later i is s e up h = past i is s e (behind i.0 is s e up.0 h) h

up_later : (i : ℕ × ℕ) (is : List (ℕ × ℕ)) → Ascends (i ∷ is) → Ascends is
unfolding IsStrictlySortedBy
up_later i is up = up.1

-- a number of an interval is held
pub held_from : (set : List (ℕ × ℕ)) (s e n : ℕ) → last_at set s ≡ Some e → s ≤ n → n ≤ e → holds set n ≡ true
held_from [] s e n h lo hi = cc
held_from (i ∷ is) s e n h lo hi = grind (arith, nat_tests, found_cases i is s e h, held_from is s e n)

-- an interval that holds n
abbrev pub Holder : List (ℕ × ℕ) → ℕ → Type 0
Holder set n = (s : ℕ) × (e : ℕ) × (last_at set s ≡ Some e) × (s ≤ n) × (n ≤ e)

-- a held number is a number of an interval
pub held_at : (set : List (ℕ × ℕ)) (n : ℕ) → Ascends set → holds set n ≡ true → Holder set n
held_at [] n up h = cc
held_at (i ∷ is) n up h = by (or_cases (is_between i.0 i.1 n) (holds is n) h) (held_at is n (up_later i is up))
  where
    by : (is_between i.0 i.1 n ≡ true) ⊎ (holds is n ≡ true) → (holds is n ≡ true → Holder is n) → Holder (i ∷ is) n
    by (inl here) rest = (i.0, i.1, found_here i is, grind (arith, nat_tests, here), grind (arith, nat_tests, here))
    by (inr later) rest = let (s, e, at, lo, hi) = rest later in (s, e, found_later i is s e up at, lo, hi)

-- the look-ups find intervals that are apart
pub record Apart (at : ℕ → Option ℕ) : Type 0 where
  pub interval : (s e : ℕ) → at s ≡ Some e → IsInterval (s, e)
  pub apart : (s e t f : ℕ) → at s ≡ Some e → at t ≡ Some f → s < t → e + 1 < t

interval_of : (set : List (ℕ × ℕ)) → AreApart set → (s e : ℕ) → last_at set s ≡ Some e → IsInterval (s, e)
interval_of [] apart s e h = cc
interval_of (i ∷ is) apart s e h = grind (arith, found_cases i is s e h, interval_of is apart.2 s e, apart.0)

behind_last : (last : ℕ) (is : List (ℕ × ℕ)) (s e : ℕ) → AllByRecursion (λ later. last + 1 < later.0) is → last_at is s ≡ Some e → last + 1 < s
behind_last last [] s e all h = cc
behind_last last (i ∷ is) s e all h = grind (arith, found_cases i is s e h, behind_last last is s e all.1, all.0)

apart_of : (set : List (ℕ × ℕ)) → AreApart set → (s e t f : ℕ) → last_at set s ≡ Some e → last_at set t ≡ Some f → s < t → e + 1 < t
apart_of [] apart s e t f h k lt = cc
apart_of (i ∷ is) apart s e t f h k lt =
    grind (arith, found_cases i is s e h, found_cases i is t f k, behind_last i.1 is t f apart.1, behind_last i.1 is s e apart.1, apart_of is apart.2 s e t f, apart.0)

pub apart_at : (set : List (ℕ × ℕ)) → AreApart set → Apart (last_at set)
apart_at set h = record { interval = interval_of set h; apart = apart_of set h }

all_from : (P : ℕ × ℕ → Type 0) (set : List (ℕ × ℕ)) → Ascends set → ((s e : ℕ) → last_at set s ≡ Some e → P (s, e)) → AllByRecursion P set
all_from P [] up h = tt
all_from P (i ∷ is) up h = (h i.0 i.1 (found_here i is), all_from P is (up_later i is up) (λ s e at. h s e (found_later i is s e up at)))

-- the other way round
pub are_apart : (set : List (ℕ × ℕ)) → Ascends set → Apart (last_at set) → AreApart set
unfolding IsStrictlySortedBy
are_apart [] up h = tt
are_apart (i ∷ is) up h = (
  h.interval i.0 i.1 (found_here i is),
  all_from (λ later. i.1 + 1 < later.0) is up.1 (λ s e at. h.apart i.0 i.1 s e (found_here i is) (found_later i is s e up at) (behind i.0 is s e up.0 at)),
  are_apart is up.1 (record {
    interval = λ s e at. h.interval s e (found_later i is s e up at);
    apart = λ s e t f at at2. h.apart s e t f (found_later i is s e up at) (found_later i is t f up at2);
  }),
)
