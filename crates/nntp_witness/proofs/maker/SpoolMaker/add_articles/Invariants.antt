use Rattle.std.proofs.Common.{List, []}
use Rattle.nntp_article.specs.Session.Spool.{Spool as SpoolValue}
use Rattle.nntp_said.specs.Facts.{Fact}
use Rattle.nntp_wire.specs.declared.limit.Limit.{Limit}
use Rattle.nntp_kept_articles.specs.Inner.Readers.{AreShownArticles}
use Rattle.nntp_witness.specs.Inner.{Witness.{IsGivenSpool}, Making.{GroupsLeft, ArticlesLeft}}
use Rattle.nntp_witness.proofs.maker.SpoolMaker.add_articles.Given as goal

-- the articles that the iterator has are left
abbrev pub invariant-loop-article : goal.invariant-loop-article
invariant-loop-article g l = (limit : Limit) (said : List Fact) (G : SpoolValue) → AreShownArticles said l.fn.articles
    → IsGivenSpool limit said G
    → GroupsLeft limit said G [] l.fn.self.builder l.fn.self.next
    → ArticlesLeft limit said G l.articles l.self.builder
