use Rattle.nntp_article.proofs.ArticleLemmas.OneReading.{one-way}
use Rattle.nntp_article.proofs.article.laws.headers_are_one_way.Goals as goal

pub returns : goal.returns
returns c = one-way
