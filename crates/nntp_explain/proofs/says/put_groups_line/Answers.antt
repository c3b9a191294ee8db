use Rattle.std.proofs.{Common.{arith, append_assoc}, lemmas.Result.{on_ok_weaker}}
use Rattle.nntp_explain.proofs.says.put_groups_line.Goals as goal

pub returns : goal.returns
returns g c = grind (arith, append_assoc, on_ok_weaker)
