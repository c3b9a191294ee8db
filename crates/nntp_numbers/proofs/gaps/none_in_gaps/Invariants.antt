use Rattle.std.{proofs.Common.{◌≡◌, ℕ, true, false}, specs.Prelude.{◌↔◌}}
use Rattle.nntp_intervals.specs.Inner.Intervals.{holds}
use Rattle.nntp_numbers.specs.Inner.Summary.{has}
use Rattle.nntp_numbers.proofs.gaps.none_in_gaps.Given as goal

abbrev pub invariant-loop-first : goal.invariant-loop-first
invariant-loop-first g l =
    ((n : ℕ) → has l.shown n ≡ true → holds l.gaps n ≡ false) ↔ ((n : ℕ) → has l.shown n ≡ true → holds l.initial.gaps n ≡ false)
