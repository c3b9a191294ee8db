use Rattle.std.proofs.{Common.{arith}, lemmas.Grind.{common_steps}}
use Rattle.nntp_numbers.proofs.numbers.Numbers.marks.Goals as goal

pub returns-in-None-None-NoDemand : goal.returns-in-None-None-NoDemand
returns-in-None-None-NoDemand g c = grind (arith, common_steps)
