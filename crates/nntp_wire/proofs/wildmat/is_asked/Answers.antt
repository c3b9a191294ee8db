use Rattle.std.proofs.{Common.{arith}, lemmas.{Bool.{true≢false}, Grind.{common_steps}}}
use Rattle.nntp_wire.proofs.wildmat.is_asked.Goals as goal

pub returns-in-Some : goal.returns-in-Some
returns-in-Some c = grind (arith, true≢false)

pub returns-in_default : goal.returns-in_default
returns-in_default c = grind (arith, common_steps)
