use Rattle.nntp_kept_articles.proofs.Base.{rules, refl, ap, sym, subst, ◌∙◌, unwrap_or, IsAddedIf, kept_by, Sends, is_added, known_article, Unsent, arith}
use Rattle.nntp_kept_articles.proofs.{Base.{MayBeSent, ◌≡◌, with_sent}, KeptArticles.{sent_noted, of_denied}, KeptIds.{put_in, had, same_key}}
use Rattle.nntp_kept_articles.proofs.articles.Articles.send.Goals as goal

pub returns-then-is_denied-clause-added : goal.returns-then-is_denied-clause-added
returns-then-is_denied-clause-added g c facts what lines kept heads bodies =
    of_denied facts c.args.self.now c.args.id.now (kept_by (Sends what lines)) kept refl (sym c.is_denied.ensures ∙ c.if-is_denied.true)

pub returns-clause-added : goal.returns-clause-added
returns-clause-added g c facts what lines kept heads bodies =
    let M = c.args.self.now in
    let id = c.args.id.now in
    let old = c.or_insert-article.result.now in
    let new = c.note.new.self in
    let free = sym c.is_denied.ensures ∙ c.if-is_denied.false in
    let found = c.or_insert-article.ensures.value ∙ ap (λ o. unwrap_or o Unsent) c.in_ok-entry.ensures.value in
    let does = subst (IsAddedIf (MayBeSent (known_article old) c.args.sent.now.head c.args.sent.now.body)
    (λ k. k ≡ with_sent (known_article old) c.args.sent.now.head c.args.sent.now.body) (known_article old) (known_article new)) (sym c.named_if.ensures.added) c.in_ok-note.ensures in
    sent_noted facts M _ what id lines _ _ (known_article old) (known_article new) (is_added c.named_if.result) kept
    (had c.self.inside.known.entries c.self.inside.denied.keys M c.self.view_is c.in_ok-from_str.field-0 id c.in_ok-from_str.ensures.ok free Unsent old refl found)
    (put_in c.self.inside.known.entries c.self.inside.denied.keys M c.self.view_is c.in_ok-from_str.field-0 id c.in_ok-from_str.ensures.ok _ new (search rules)) heads bodies does

pub returns-clause-text : goal.returns-clause-text
returns-clause-text g c = grind (arith, same_key c.in_ok-from_str.field-0 c.key.result.now c.in_ok-text.text c.args.id.now)
