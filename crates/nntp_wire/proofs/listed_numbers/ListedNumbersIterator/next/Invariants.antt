use Rattle.std.proofs.Common.{◌≡◌, length}
use Rattle.nntp_wire.specs.Listing.{listed_numbers}
use Rattle.nntp_wire.proofs.listed_numbers.ListedNumbersIterator.next.Given as goal

abbrev pub invariant-loop-line : goal.invariant-loop-line
invariant-loop-line l = listed_numbers l.self-inside.lines ≡ l.fn.self

abbrev pub decreases-loop-line : goal.decreases-loop-line
decreases-loop-line l = length l.self-inside.lines
