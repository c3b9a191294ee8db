use Rattle.std.proofs.Common.{◌≡◌, length}
use Rattle.nntp_wire.specs.Listing.{overviews_of}
use Rattle.nntp_wire.proofs.overview_lines.OverviewLinesIterator.next.Given as goal

abbrev pub invariant-loop-line : goal.invariant-loop-line
invariant-loop-line l = overviews_of l.self-inside.lines ≡ l.fn.self

abbrev pub decreases-loop-line : goal.decreases-loop-line
decreases-loop-line l = length l.self-inside.lines
