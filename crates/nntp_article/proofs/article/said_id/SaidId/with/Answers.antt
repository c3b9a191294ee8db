use Rattle.std.proofs.Common.{rules}
use Rattle.nntp_article.proofs.ArticleLemmas.SaidLemmas.{continued-closed, continued-open}
use Rattle.nntp_article.proofs.article.said_id.SaidId.with.Goals as goal

pub returns-then-not-self : goal.returns-then-not-self
returns-then-not-self c = search (rules, continued-closed)

pub returns : goal.returns
returns c = search (rules, continued-open)
