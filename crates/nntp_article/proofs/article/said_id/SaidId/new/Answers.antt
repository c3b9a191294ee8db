use Rattle.nntp_article.proofs.ArticleLemmas.SaidLemmas.{said-none}
use Rattle.nntp_article.proofs.article.said_id.SaidId.new.Goals as goal

pub returns : goal.returns
returns c = said-none
