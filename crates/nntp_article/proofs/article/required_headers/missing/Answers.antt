use Rattle.std.proofs.Common.{rules}
use Rattle.nntp_article.proofs.ArticleLemmas.MissingLemmas.{still, still-more}
use Rattle.nntp_article.proofs.article.required_headers.missing.Goals as goal

pub loop-header-preserved : goal.loop-header-preserved
loop-header-preserved c = search (rules, still-more, still)
