use Rattle.std.proofs.{Common.{arith}, lemmas.Grind.{common_steps}}
use Rattle.nntp_explain.proofs.says.put_there_is.Goals as goal

pub returns-in-Group : goal.returns-in-Group
returns-in-Group g c = grind (arith, common_steps)
