use Rattle.std.proofs.{Common.{arith}, lemmas.Grind.{common_steps}}
use Rattle.nntp_explain.proofs.reasons.put_current.Goals as goal

pub returns-in_ok-put_number-in-Known : goal.returns-in_ok-put_number-in-Known
returns-in_ok-put_number-in-Known g c = grind (arith, common_steps)

pub returns-in-Nowhere : goal.returns-in-Nowhere
returns-in-Nowhere g c = grind (arith, common_steps)
