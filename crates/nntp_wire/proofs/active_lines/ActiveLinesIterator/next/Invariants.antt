use Rattle.std.proofs.Common.{◌≡◌, length}
use Rattle.nntp_wire.specs.Listing.{active_groups}
use Rattle.nntp_wire.proofs.active_lines.ActiveLinesIterator.next.Given as goal

abbrev pub invariant-loop-line : goal.invariant-loop-line
invariant-loop-line l = active_groups l.self-inside.lines ≡ l.fn.self

abbrev pub decreases-loop-line : goal.decreases-loop-line
decreases-loop-line l = length l.self-inside.lines
