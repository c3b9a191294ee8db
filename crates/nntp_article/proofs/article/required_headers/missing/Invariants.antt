use Rattle.std.proofs.Common.{◌≡◌}
use Rattle.nntp_article.{specs.Article.Required.{missing_of}, proofs.ArticleLemmas.MissingLemmas.{still}}
use Rattle.nntp_article.proofs.article.required_headers.missing.Given as goal

-- the headers that are left decide what is still missing
abbrev pub invariant-loop-header : goal.invariant-loop-header
invariant-loop-header l = still l.missing l.headers ≡ missing_of l.head
