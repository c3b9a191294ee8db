use Rattle.nntp_kept_articles.proofs.{Base.{◌≡◌, None, arith, known_article}, KeptIds.{not_denied}}
use Rattle.nntp_kept_articles.proofs.known.KnownArticle.hold_told.Goals as goal

pub returns-then-is_none : goal.returns-then-is_none
returns-then-is_none g c =
    let none : (known_article c.args.self.now).fields ≡ None = grind (arith, c.fields.ensures, c.is_none.ensures, c.if-is_none.true) in
    grind (arith, none, not_denied c.args.self.now)
