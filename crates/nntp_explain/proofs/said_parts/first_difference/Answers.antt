use Rattle.std.proofs.{Common.{arith}, lemmas.Grind.{common_steps}}
use Rattle.nntp_explain.proofs.said_parts.first_difference.Goals as goal

pub returns-in-Some-next-2-clause-small : goal.returns-in-Some-next-2-clause-small
returns-in-Some-next-2-clause-small c = grind (arith, common_steps)

pub returns-in_default-clause-small : goal.returns-in_default-clause-small
returns-in_default-clause-small c = grind (arith, common_steps)
