use Rattle.std.proofs.{Common.{arith}, lemmas.Grind.{common_steps}}
use Rattle.nntp_explain.proofs.unfitting.put_unfitting.Goals as goal

pub returns-in_ok-put_misfit-in-Some-BelowLow : goal.returns-in_ok-put_misfit-in-Some-BelowLow
returns-in_ok-put_misfit-in-Some-BelowLow g c = grind (arith, common_steps)

pub returns-in-Some : goal.returns-in-Some
returns-in-Some g c = grind (arith, common_steps)
