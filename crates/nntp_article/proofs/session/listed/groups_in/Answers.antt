use Rattle.std.proofs.{Common.{arith}, lemmas.Grind.{common_steps}}
use Rattle.nntp_article.proofs.session.listed.groups_in.Goals as goal

pub loop-group-preserved : goal.loop-group-preserved
loop-group-preserved g c = grind (arith, common_steps)
