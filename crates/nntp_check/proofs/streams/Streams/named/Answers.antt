use Rattle.std.proofs.{Common.{arith}, lemmas.Grind.{common_steps}}
use Rattle.nntp_check.proofs.streams.Streams.named.Goals as goal

pub loop-session-preserved : goal.loop-session-preserved
loop-session-preserved g c = grind (arith, common_steps)

pub returns : goal.returns
returns g c = grind (arith, common_steps)
