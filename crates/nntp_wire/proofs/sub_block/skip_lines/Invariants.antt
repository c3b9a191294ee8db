use Rattle.nntp_wire.proofs.SubBlockLemmas.{Passed}
use Rattle.nntp_wire.proofs.sub_block.skip_lines.Given as goal

-- as many lines as were counted stand in front of the rest
abbrev pub invariant-loop-line : goal.invariant-loop-line
invariant-loop-line l = Passed l._line l.bytes l.rest
