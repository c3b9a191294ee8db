use Rattle.nntp_kept_articles.proofs.Base.{rules, refl, ap, sym, subst, ◌∙◌, unwrap_or, IsAddedIf, telling, known_article, Unsent, arith, is_added, MayBeTold}
use Rattle.nntp_kept_articles.{proofs.{Base.{◌≡◌}, KeptArticles.{of_denied, told_noted}, KeptIds.{put_in, had, same_key}}, specs.Inner.Articles.{with_told}}
use Rattle.nntp_kept_articles.proofs.articles.Articles.tell.Goals as goal

pub returns-then-is_denied-clause-added : goal.returns-then-is_denied-clause-added
returns-then-is_denied-clause-added g c facts kept =
    of_denied facts c.args.self.now c.args.id.now (telling c.args.is_sent c.args.told) kept refl (sym c.is_denied.ensures ∙ c.if-is_denied.true)

pub returns-clause-added : goal.returns-clause-added
returns-clause-added g c facts kept =
    let M = c.args.self.now in
    let id = c.args.id.now in
    let old = c.or_insert-article.result.now in
    let new = c.note_told.new.self in
    let free = sym c.is_denied.ensures ∙ c.if-is_denied.false in
    let found = c.or_insert-article.ensures.value ∙ ap (λ o. unwrap_or o Unsent) c.in_ok-entry.ensures.value in
    let does = subst (IsAddedIf (MayBeTold (known_article old) c.args.told) (λ k. k ≡ with_told (known_article old) c.args.is_sent c.args.told) (known_article old) (known_article new))
    (sym c.named_if.ensures.added) c.in_ok-note_told.ensures in
    told_noted facts M _ id c.args.is_sent c.args.told (known_article old) (known_article new) (is_added c.named_if.result) kept
    (had c.self.inside.known.entries c.self.inside.denied.keys M c.self.view_is c.in_ok-from_str.field-0 id c.in_ok-from_str.ensures.ok free Unsent old refl found)
    (put_in c.self.inside.known.entries c.self.inside.denied.keys M c.self.view_is c.in_ok-from_str.field-0 id c.in_ok-from_str.ensures.ok _ new (search rules)) does

pub returns-clause-text : goal.returns-clause-text
returns-clause-text g c = grind (arith, same_key c.in_ok-from_str.field-0 c.key.result.now c.in_ok-text.text c.args.id.now)
