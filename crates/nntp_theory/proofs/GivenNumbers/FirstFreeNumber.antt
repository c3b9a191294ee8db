-- The first number from one on that isn't taken: the search for it, and that there is one at most.
use Rattle.std.{proofs.{Common.{◌≡◌, ℕ, zero, suc, ◌+◌, ◌<◌, ◌≤◌, Bool, true, None, Some, arith}, lemmas.Bool.{cases_lt, true≢false}}, specs.Prelude.{IsFalse}}
use Rattle.nntp_theory.specs.{Given.{IsFirstFree}, Inner.OneMore.{free}}

-- there is one at most
pub first_free_once : (taken : ℕ → Bool) (k i j : ℕ) → IsFirstFree taken k i → IsFirstFree taken k j → i ≡ j
first_free_once taken k i j x y = grind arith

-- what is found is the first
pub free_is : (taken : ℕ → Bool) (k n j : ℕ) → free taken k n ≡ Some j → IsFirstFree taken n j
unfolding free
free_is taken zero n j e = cc
free_is taken (suc k) n j e = grind (arith, free_is taken k (n + 1) j)

-- where none is found, all are taken
pub free_none : (taken : ℕ → Bool) (k n : ℕ) → free taken k n ≡ None → (m : ℕ) → n ≤ m → m < n + k → taken m ≡ true
unfolding free
free_none taken zero n e m a b = absurd (omega arith)
free_none taken (suc k) n e m a b = grind (arith, cases_lt, free_none taken k (n + 1))

-- where one isn't taken, there is a first, and it is no greater
pub first_free : (taken : ℕ → Bool) (k c : ℕ) → k ≤ c → IsFalse (taken c) → (n : ℕ) × IsFirstFree taken k n × (n ≤ c)
first_free taken k c from is_free = grind (arith, true≢false, free_none taken (c + 1) k, free_is, cases_lt)
