use Rattle.std.proofs.Common.{◌≡◌, ◌+◌, ◌≤◌, length}
use Rattle.nntp_wire.specs.Lines.{lines_of_stream}
use Rattle.nntp_pair.proofs.places.count_lines.Given as goal

abbrev pub invariant-loop-behind : goal.invariant-loop-behind
invariant-loop-behind l = record {
  counted : l.count + length (lines_of_stream l.rest) ≡ length (lines_of_stream l.fn.stream);
  bound : l.count + length l.rest ≤ length l.fn.stream;
}

abbrev pub decreases-loop-behind : goal.decreases-loop-behind
decreases-loop-behind l = length l.rest
