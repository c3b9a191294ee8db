use Rattle.std.proofs.{Common.{arith}, lemmas.Grind.{common_steps}}
use Rattle.nntp_numbers.proofs.number_set.NumberSet.meets.Goals as goal

pub returns-else-is_between-2 : goal.returns-else-is_between-2
returns-else-is_between-2 g c = grind (arith, common_steps)

pub returns-then-is_between-2 : goal.returns-then-is_between-2
returns-then-is_between-2 g c = grind (arith, common_steps)
