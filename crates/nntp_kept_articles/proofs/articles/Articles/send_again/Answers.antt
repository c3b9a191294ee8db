use Rattle.nntp_kept_articles.proofs.Base.{Some, map, sym, ap, subst, ◌∙◌, unwrap_or, if_ok, unsent, is_added, known_article, IsAddedIf, AreKeptArticles, Sends}
use Rattle.nntp_kept_articles.proofs.{Base.{IsArticleAdded, MayBeSent, ◌≡◌, with_sent}, KeptIds.{replaced_known}, KeptArticles.{sent_noted}}
use Rattle.nntp_kept_articles.specs.Inner.{Articles.{with_denied}, ArticleView.{articles_known}}
use Rattle.nntp_kept_articles.proofs.articles.Articles.send_again.Goals as goal

pub returns-in-Some : goal.returns-in-Some
returns-in-Some g c facts what lines kept heads bodies =
    let M = c.args.self.now in
    let id = c.args.id.now in
    let old = c.in-Some.article.now in
    let new = c.note.new.self in
    let r = replaced_known c.self.inside.known.entries c.self.inside.denied.keys M c.self.view_is id _ old new c.in-Some.ensures.value (c.get_mut.follows.holds new).0 in
    let does = subst (IsAddedIf (MayBeSent (known_article old) c.args.sent.now.head c.args.sent.now.body)
    (λ k. k ≡ with_sent (known_article old) c.args.sent.now.head c.args.sent.now.body) (known_article old) (known_article new)) (sym c.unnamed_if.ensures.added) c.in_ok-note.ensures in
    sent_noted facts M _ what id lines _ _ (known_article old) (known_article new) (is_added c.unnamed_if.result) kept (ap (λ o. unwrap_or o unsent) (sym r.1)) r.0 heads bodies does

pub returns : goal.returns
returns g c =
    let M = c.args.self.now in
    let same = ap (λ known. with_denied (articles_known known.entries) (map (λ id. id.items) c.self.inside.denied.keys)) c.get_mut.follows.holds-at-none ∙ c.self.view_is in
    if_ok c.send.result (λ added adds facts what lines kept heads bodies.
    subst (λ m. IsArticleAdded facts (Some (c.args.id.now, Sends what lines)) m c.send.new.self (is_added added)) same
    (adds facts what lines (subst (AreKeptArticles facts) (sym same) kept) heads bodies)) c.send.ensures.added
