use Rattle.std.proofs.{Common.{arith}, lemmas.Grind.{common_steps}}
use Rattle.nntp_printing.proofs.title.put_title.Goals as goal

pub returns : goal.returns
returns g c = grind (arith, common_steps)

pub returns-then-is_empty : goal.returns-then-is_empty
returns-then-is_empty g c = grind (arith, common_steps)
