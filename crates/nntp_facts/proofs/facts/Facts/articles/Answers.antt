use Rattle.nntp_facts.proofs.Base.{arith, said_behind}
use Rattle.nntp_kept_articles.proofs.ArticleReaders.{articles_shown}
use Rattle.nntp_facts.proofs.facts.Facts.articles.Goals as goal

pub returns-clause-noted : goal.returns-clause-noted
returns-clause-noted g c profile earlier past stands = grind (arith, articles_shown (said_behind profile.marks earlier past) c.args.self.now.kept.articles stands.kept.articles)

pub returns-clause-kept : goal.returns-clause-kept
returns-clause-kept g c facts kept = grind (arith, articles_shown facts c.args.self.now.kept.articles kept)
