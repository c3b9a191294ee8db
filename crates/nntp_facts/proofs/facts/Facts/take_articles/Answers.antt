use Rattle.nntp_facts.proofs.Base.{arith}
use Rattle.nntp_kept_articles.proofs.ArticleReaders.{articles_shown}
use Rattle.nntp_facts.proofs.facts.Facts.take_articles.Goals as goal

pub returns : goal.returns
returns g c facts kept = grind (arith, articles_shown facts c.args.self.now.kept.articles kept)
