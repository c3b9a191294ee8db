use Rattle.std.proofs.{Common.{arith}, lemmas.Grind.{common_steps}}
use Rattle.nntp_explain.proofs.says.put_id_at.Goals as goal

pub returns-in-PlaceOf : goal.returns-in-PlaceOf
returns-in-PlaceOf g c = grind (arith, common_steps)

pub returns-in-IdOf : goal.returns-in-IdOf
returns-in-IdOf g c = grind (arith, common_steps)
