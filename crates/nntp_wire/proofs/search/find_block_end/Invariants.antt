use Rattle.std.proofs.Common.{◌≤◌, length}
use Rattle.nntp_wire.proofs.SearchLemmas.{NoEndBefore}
use Rattle.nntp_wire.proofs.search.find_block_end.Given as goal

-- no block ends at a dot that was seen
abbrev pub invariant-loop-dot : goal.invariant-loop-dot
invariant-loop-dot l = (l.seen ≤ length l.fn.octets) × NoEndBefore l.fn.octets l.seen
