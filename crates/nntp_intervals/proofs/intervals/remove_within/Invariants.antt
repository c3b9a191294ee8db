use Rattle.std.{proofs.Common.{◌≡◌, ℕ, None, length, cond}, specs.{Ordering.{nat_cmp}, BTreeMap.{get, IsOrdered}}}
use Rattle.nntp_intervals.specs.Inner.Neighbours.{is_within}
use Rattle.nntp_intervals.proofs.intervals.remove_within.Given as goal

abbrev pub invariant-loop-first : goal.invariant-loop-first
invariant-loop-first g l = record {
  gone : (n : ℕ) → cond (is_within l.start l.end n) None (get nat_cmp l.lasts n) ≡ cond (is_within l.start l.end n) None (get nat_cmp l.fn.lasts n);
  ordered : IsOrdered nat_cmp l.fn.lasts → IsOrdered nat_cmp l.lasts;
}

abbrev pub decreases-loop-first : goal.decreases-loop-first
decreases-loop-first g l = length l.lasts.entries
