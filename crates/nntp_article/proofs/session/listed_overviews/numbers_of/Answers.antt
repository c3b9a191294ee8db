use Rattle.std.proofs.{Common.{arith}, lemmas.Grind.{common_steps}}
use Rattle.nntp_article.proofs.session.listed_overviews.numbers_of.Goals as goal

pub loop-overview-preserved : goal.loop-overview-preserved
loop-overview-preserved g c = grind (arith, common_steps)

pub returns : goal.returns
returns g c = grind (arith, common_steps)
