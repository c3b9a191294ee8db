use Rattle.nntp_kept_articles.proofs.{Base.{arith, refl}, KeptIds.{no_part_known}, KeptArticles.{same_as_none}}
use Rattle.nntp_kept_articles.proofs.articles.Articles.other_field.Goals as goal

pub returns-in_err-get : goal.returns-in_err-get
returns-in_err-get g c =
    let none = no_part_known c.self.inside.known.entries c.self.inside.denied.keys c.args.self.now c.self.view_is c.args.id.now (λ s. s.fields) refl refl c.in_err-get.ensures.value in
    grind (arith, none, same_as_none)
