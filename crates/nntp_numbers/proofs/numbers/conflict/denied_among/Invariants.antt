use Rattle.std.proofs.Common.{◌≡◌, ℕ, true, false, ◌<◌, ◌^◌}
use Rattle.nntp_intervals.specs.Inner.Intervals.{holds}
use Rattle.nntp_numbers.specs.Inner.Summary.{has}
use Rattle.nntp_numbers.proofs.numbers.conflict.denied_among.Given as goal

abbrev pub invariant-loop-n : goal.invariant-loop-n
invariant-loop-n g l =
    (((n : ℕ) → has l.numbers n ≡ true → (n < 2 ^ 64) × (holds l.denied n ≡ false)) → (n : ℕ) → has l.shown n ≡ true → (n < 2 ^ 64) × (holds l.denied n ≡ false))
    × ((n : ℕ) → has l.numbers n ≡ true → has l.shown n ≡ true)
