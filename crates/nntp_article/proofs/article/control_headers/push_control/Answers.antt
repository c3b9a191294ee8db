use Rattle.std.proofs.{Common.{arith}, lemmas.Grind.{common_steps}}
use Rattle.nntp_article.proofs.article.control_headers.push_control.Goals as goal

pub returns : goal.returns
returns g c = grind (arith, common_steps)
