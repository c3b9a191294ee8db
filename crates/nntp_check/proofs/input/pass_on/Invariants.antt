use Rattle.std.proofs.Common.{length}
use Rattle.nntp_check.specs.Inner.Sinks.{PassesOn}
use Rattle.nntp_check.proofs.input.pass_on.Given as goal

abbrev pub invariant-loop-rest : goal.invariant-loop-rest
invariant-loop-rest g l = (by : g.S.Sink.By) → PassesOn l.fn.reader l.reader (g.S.Sink.stands by l.fn.sink) (g.S.Sink.stands by l.sink) l.octets l.rest

abbrev pub decreases-loop-rest : goal.decreases-loop-rest
decreases-loop-rest g l = length l.rest
