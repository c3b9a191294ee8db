use Rattle.nntp_kept_articles.proofs.{Base.{arith, sym, ◌∙◌}, KeptArticles.{mentioned_kept}, KeptIds.{kept_if_denied}}
use Rattle.nntp_kept_articles.proofs.articles.Articles.mentions.Goals as goal

pub returns-else-has_octets-clause-is : goal.returns-else-has_octets-clause-is
returns-else-has_octets-clause-is g c =
    c.contains.ensures ∙ kept_if_denied c.self.inside.known.entries c.self.inside.denied.keys c.args.self.now c.self.view_is c.args.id.now (sym c.has_octets.ensures ∙ c.if-has_octets.false)

pub returns-then-has_octets-clause-facts : goal.returns-then-has_octets-clause-facts
returns-then-has_octets-clause-facts g c = λ facts kept. grind (arith, mentioned_kept facts c.args.self.now c.args.id.now kept)

pub returns-else-has_octets-clause-facts : goal.returns-else-has_octets-clause-facts
returns-else-has_octets-clause-facts g c = λ facts kept. returns-else-has_octets-clause-is g c ∙ sym (mentioned_kept facts c.args.self.now c.args.id.now kept)
