use Rattle.nntp_article.proofs.ArticleLemmas.OneReading.{parts-iff}
use Rattle.nntp_article.proofs.article.laws.parts_are_one_way.Goals as goal

pub returns : goal.returns
returns c = parts-iff
