use Rattle.std.proofs.{Common.{arith}, lemmas.Grind.{common_steps}}
use Rattle.nntp_explain.proofs.reasons.put_codes.Goals as goal

pub loop-code-preserved : goal.loop-code-preserved
loop-code-preserved g c = grind (arith, common_steps)
