use Rattle.nntp_kept_articles.proofs.{Base.{refl, arith}, KeptIds.{part_known, no_part_known}, KeptArticles.{same_as_none}}
use Rattle.nntp_kept_articles.proofs.articles.Articles.may_have_body.Goals as goal

pub returns-in-Some : goal.returns-in-Some
returns-in-Some g c facts kept = grind (arith, part_known, kept c.args.id.now)

pub returns-in-None : goal.returns-in-None
returns-in-None g c facts kept =
    let none = no_part_known c.self.inside.known.entries c.self.inside.denied.keys c.args.self.now c.self.view_is c.args.id.now (λ s. s.body) refl refl c.in-None.ensures.value in
    grind (arith, none, kept c.args.id.now, same_as_none c.args.sent.now.body)
