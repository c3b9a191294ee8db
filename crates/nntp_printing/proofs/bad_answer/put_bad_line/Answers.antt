use Rattle.std.proofs.{Common.{arith}, lemmas.Grind.{common_steps}}
use Rattle.nntp_printing.proofs.bad_answer.put_bad_line.Goals as goal

pub returns : goal.returns
returns g c = grind (arith, common_steps)
