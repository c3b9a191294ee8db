use Rattle.std.proofs.{Common.{arith}, lemmas.Grind.{common_steps}}
use Rattle.nntp_explain.proofs.said_numbers.put_numbered.Goals as goal

pub returns-then-is_none_or : goal.returns-then-is_none_or
returns-then-is_none_or g c = grind (arith, common_steps)
