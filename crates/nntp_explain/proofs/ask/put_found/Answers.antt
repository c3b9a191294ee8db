use Rattle.std.proofs.{Common.{arith}, lemmas.Grind.{common_steps}}
use Rattle.nntp_explain.proofs.ask.put_found.Goals as goal

pub returns-in-None : goal.returns-in-None
returns-in-None g c = grind (arith, common_steps)
