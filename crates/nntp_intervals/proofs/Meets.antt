-- Whether a range meets the set.
use Rattle.std.proofs.{Common.{◌⊎◌, inl, inr, ℕ, ◌<◌, ◌≤◌, List, sym, ◌∙◌, arith}, lemmas.Bool.{cases_lt, le-leb, leb-true, true≢false}}
use Rattle.std.specs.Prelude.{IsTrue, ◌↔◌, nat_le}
use Rattle.nntp_intervals.specs.Inner.{Intervals.{holds, Meets}, Neighbours.{IsLastUpTo}}

-- the last interval that begins in the range or before it decides
pub meets_last : (set : List (ℕ × ℕ)) (first last start end : ℕ) → first ≤ last → IsLastUpTo set last start end → IsTrue (nat_le first end) ↔ Meets set first last
meets_last set first last start end asc is = (λ t. forth (leb-true first end t) (cases_lt first start), λ (n, lo, hi, held). le-leb first end (back n lo hi held (cases_lt end first)))
  where
    forth : first ≤ end → (first < start) ⊎ (start ≤ first) → Meets set first last
    forth le (inl lt) = (start, omega arith, is.begins, is.held start (omega arith) is.ascends)
    forth le (inr ge) = (first, omega arith, asc, is.held first ge le)

    back : (n : ℕ) → first ≤ n → n ≤ last → IsTrue (holds set n) → (end < first) ⊎ (first ≤ end) → first ≤ end
    back n lo hi held (inr le) = le
    back n lo hi held (inl gt) = absurd (true≢false (sym held ∙ is.free_up_to n (omega arith) hi))
