use Rattle.std.proofs.{Common.{arith}, lemmas.Grind.{common_steps}}
use Rattle.nntp_explain.proofs.said_fields.put_front.Goals as goal

pub returns-clause-front : goal.returns-clause-front
returns-clause-front g c = grind (arith, common_steps)
