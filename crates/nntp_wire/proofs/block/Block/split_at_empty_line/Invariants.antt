use Rattle.nntp_wire.proofs.EmptyLineLemmas.{Nonempty}
use Rattle.nntp_wire.proofs.block.Block.split_at_empty_line.Given as goal

-- the lines so far are not empty
abbrev pub invariant-loop-line : goal.invariant-loop-line
invariant-loop-line l = Nonempty l.self-inside.sent.now l.line-iterator l.length
