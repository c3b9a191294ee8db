-- The intervals that the numbers of a part leave of its own, and the first free number.
use Rattle.std.proofs.lemmas.Bool.{cases_Bool, and_parts, or_parts, or_from, or_right, or_cases, ltb-true, ltb-false, eq-eqb, eqb-true, false_from_ne_true}
use Rattle.std.proofs.{lemmas.Bool.Decides.{nat_tests}, Common.{◌≡◌, ℕ, ◌+◌, ◌-◌, ◌^◌, ◌<◌, ◌≤◌, Bool, true, false, cond, not, ◌&&◌, ◌||◌, ◌==◌, IsTrue, List}}
use Rattle.std.{proofs.Common.{[], ◌∷◌, None, Some, refl, arith, ◌⊎◌}, specs.{List.{list_all}, Prelude.{◌↔◌, nat_lt, slice_get}}}
use Rattle.nntp_intervals.specs.Inner.Intervals.{holds, is_between}
use Rattle.nntp_article.specs.Session.Machine.{is_ascending}
use Rattle.nntp_numbers.specs.Inner.{Part.{Said, IsRegular, part_denies, is_one_of}, Summary.{has, AgreesWith, denied_after, is_open, gaps}}
use Rattle.nntp_theory.specs.Given.{IsFirstFree}

-- the numbers are from a start to an end, from 1 on
abbrev pub AreWithin : (start last : ℕ) → List ℕ → Type 0
AreWithin start last ns = (n : ℕ) → is_one_of ns n ≡ true → (1 ≤ n) × (start ≤ n) × (n ≤ last)

-- the numbers behind the first of ascending ones are above it
pub listed_above : (n : ℕ) (ns : List ℕ) (m : ℕ) → list_all (λ k. nat_lt n k) ns ≡ true → is_one_of ns m ≡ true → n < m
listed_above n [] m up t = cc
listed_above n (k ∷ ns) m up t = grind (arith, and_parts, or_cases, listed_above n ns m, nat_tests)

-- ---- the intervals

-- a number that isn't listed is in an interval, and no other
pub gaps_hold : (start last : ℕ) (ns : List ℕ) → IsTrue (is_ascending ns) → AreWithin start last ns → (m : ℕ) → m < 2 ^ 64
    → holds (gaps (Some start) last ns) m ≡ (is_between start last m && not (is_one_of ns m))
gaps_hold start last [] up within m small = grind arith
gaps_hold start last (n ∷ ns) up within m small =
    let p = and_parts (list_all (λ k. nat_lt n k) ns) (is_ascending ns) up in
    let later = gaps_hold (n + 1) last ns p.1 (λ k t. grind (arith, within k, listed_above n ns k p.0, or_right)) m small in
    by (is_one_of ns m) (listed_above n ns m p.0) later (nat_lt (n + 1) (2 ^ 64)) refl
  where
    here : (1 ≤ n) × (start ≤ n) × (n ≤ last)
    here = within n (grind (arith, eq-eqb))

    by : (x : Bool) → (x ≡ true → n < m) → holds (gaps (Some (n + 1)) last ns) m ≡ (is_between (n + 1) last m && not x)
        → (b : Bool) → nat_lt (n + 1) (2 ^ 64) ≡ b
        → (is_between start (n - 1) m || holds (gaps (cond b (Some (n + 1)) None) last ns) m) ≡ (is_between start last m && not (m == n || x))
    by x above later true t = grind (arith, here, nat_tests, cases_Bool x)
    by x above later false t = grind (arith, here, nat_tests, ltb-true)

-- ---- what is said

module _ (p : Said) (regular : IsRegular p) where
  -- what is denied, as the code has it
  pub denies_by_gaps : (n : ℕ) → n < 2 ^ 64 → ((nat_lt n p.low || nat_lt p.high n) || holds (gaps (Some p.first) p.last p.numbers) n) ≡ part_denies p n
  denies_by_gaps n l = grind (arith, gaps_hold p.first p.last p.numbers regular.ascends regular.within n l)

  -- where no shown number is outside the marks, none is denied exactly if none is in an interval
  pub none_denied : (shown : List ℕ) (is : List (ℕ × ℕ)) (b : Bool) → is ≡ gaps (Some p.first) p.last p.numbers
      → ((n : ℕ) → has shown n ≡ true → (nat_lt n p.low || nat_lt p.high n) ≡ false) → (IsTrue b ↔ ((n : ℕ) → has shown n ≡ true → holds is n ≡ false))
      → IsTrue b ↔ ((n : ℕ) → has shown n ≡ true → part_denies p n ≡ false)
  none_denied shown is b same inside none = grind (arith, or_from, or_parts, ltb-false, denies_by_gaps)

-- ---- the numbers of a part that are open

-- what passes a test for all of some numbers passes for each
pub each_passes : (test : ℕ → Bool) (ks : List ℕ) → list_all test ks ≡ true → (n : ℕ) → is_one_of ks n ≡ true → test n ≡ true
each_passes test [] all n t = cc
each_passes test (k ∷ ks) all n t = grind (arith, and_parts, or_cases, eqb-true, each_passes test ks)

-- and back
pub all_pass : (test : ℕ → Bool) (ks : List ℕ) → ((n : ℕ) → is_one_of ks n ≡ true → test n ≡ true) → list_all test ks ≡ true
all_pass test [] each = refl
all_pass test (k ∷ ks) each = grind (arith, each k, nat_tests, all_pass test ks)

module _ (shown : List ℕ) (denied : List (ℕ × ℕ)) (p : Said) where
  -- what isn't denied after it is open
  free_open : (n : ℕ) → denied_after denied p n ≡ false → is_open denied p n ≡ true
  free_open n free = grind arith

  -- nothing is both shown and denied
  pub part_agrees : IsTrue p.possible → ((n : ℕ) → has shown n ≡ true → part_denies p n ≡ false) → IsTrue (list_all (is_open denied p) p.numbers) → AgreesWith shown denied p
  part_agrees can none all = record { can_be = can; before = none; after = λ n t. grind (arith, each_passes (is_open denied p) p.numbers all n t) }

  -- and back
  pub agrees_open : AgreesWith shown denied p → IsTrue (list_all (is_open denied p) p.numbers)
  agrees_open agrees = all_pass (is_open denied p) p.numbers (λ n t. free_open n (agrees.after n t))

-- ---- the first free number, where a part has numbers

-- the first number is one of them
first_there : (ns : List ℕ) (n : ℕ) → slice_get ns 0 ≡ Some n → is_one_of ns n ≡ true
first_there [] n head = cc
first_there (x ∷ ns) n head = grind (arith, nat_tests)

-- and none that is below it is
none_before : (ns : List ℕ) (n : ℕ) → is_ascending ns ≡ true → slice_get ns 0 ≡ Some n → (m : ℕ) → m < n → is_one_of ns m ≡ false
none_before [] n up head m l = cc
none_before (x ∷ ns) n up head m l = grind (arith, nat_tests, and_parts, listed_above x ns m, false_from_ne_true)

module _ (denied : List (ℕ × ℕ)) (p : Said) (regular : IsRegular p) (all : IsTrue (list_all (is_open denied p) p.numbers)) (n : ℕ) (head : slice_get p.numbers 0 ≡ Some n) where
  pub may_begin : (1 ≤ n) × (p.low ≤ n) × (n ≤ p.high) × (p.first ≤ n) × (n ≤ p.last) × (holds denied n ≡ false)
  may_begin = grind (arith, first_there p.numbers n head, each_passes (is_open denied p) p.numbers all n, nat_tests, regular.within n)

  pub first_of_part : (r : ℕ) → 1 ≤ r → p.low ≤ r → (r < p.first) ⊎ (r ≡ n) → holds denied r ≡ false → r ≤ n
      → ((m : ℕ) → 1 ≤ m → p.low ≤ m → m < r → m < p.first → holds denied m ≡ true) → IsFirstFree (denied_after denied p) 1 r
  first_of_part r one above kind free up before = grind (arith, may_begin, first_there p.numbers n head, nat_tests, none_before p.numbers n regular.ascends head)
