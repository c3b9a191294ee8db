use Rattle.nntp_article.proofs.ArticleLemmas.OneReading.{head-iff}
use Rattle.nntp_article.proofs.article.laws.head_is_its_headers.Goals as goal

pub returns : goal.returns
returns c = head-iff
