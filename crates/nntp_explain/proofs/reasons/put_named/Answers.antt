use Rattle.std.proofs.{Common.{arith}, lemmas.Grind.{common_steps}}
use Rattle.nntp_explain.proofs.reasons.put_named.Goals as goal

pub returns : goal.returns
returns g c = grind (arith, common_steps)
