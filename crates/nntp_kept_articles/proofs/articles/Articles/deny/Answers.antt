use Rattle.nntp_kept_articles.{proofs.{Base.{arith}, KeptIds.{one_more_denied}}, specs.Inner.ArticleView.{articles_known}}
use Rattle.nntp_kept_articles.proofs.articles.Articles.deny.Goals as goal

pub returns : goal.returns
returns g c = grind (arith, one_more_denied (articles_known c.self.inside.known.entries) c.self.inside.denied.keys c.in_ok-from_slice.field-0)
