use Rattle.std.proofs.{Common.{arith}, lemmas.Grind.{common_steps}}
use Rattle.nntp_numbers.proofs.numbers_part.NumbersPart.first_free_outside.Goals as goal

pub returns-in_err-free-2 : goal.returns-in_err-free-2
returns-in_err-free-2 g c = grind (arith, common_steps)

pub returns-in_err-checked_add : goal.returns-in_err-checked_add
returns-in_err-checked_add g c = grind (arith, common_steps)
