use Rattle.std.proofs.Common.{◌≡◌, ℕ, ◌||◌}
use Rattle.nntp_intervals.specs.Inner.Intervals.{holds}
use Rattle.nntp_numbers.proofs.gaps.deny_gaps.Given as goal

abbrev pub invariant-loop-first : goal.invariant-loop-first
invariant-loop-first g l = (n : ℕ) → (holds l.denied n || holds l.gaps n) ≡ (holds l.initial.denied n || holds l.initial.gaps n)
