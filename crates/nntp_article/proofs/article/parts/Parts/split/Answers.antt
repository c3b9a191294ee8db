use Rattle.std.proofs.Common.{rules}
use Rattle.nntp_article.proofs.ArticleLemmas.PartLemmas.{none-empty, parted}
use Rattle.nntp_article.proofs.article.parts.Parts.split.Goals as goal

pub returns-in_err-head-clause-some : goal.returns-in_err-head-clause-some
returns-in_err-head-clause-some c = search (rules, none-empty c.args.article.now c.in_err-head.ensures)

pub returns-clause-head : goal.returns-clause-head
returns-clause-head c = (parted c.args.article.now c.in_ok-head.head c.in_ok-head.body c.in_ok-head.ensures.0 c.in_ok-head.ensures.1).head_is

pub returns-clause-body : goal.returns-clause-body
returns-clause-body c = (parted c.args.article.now c.in_ok-head.head c.in_ok-head.body c.in_ok-head.ensures.0 c.in_ok-head.ensures.1).body_is
