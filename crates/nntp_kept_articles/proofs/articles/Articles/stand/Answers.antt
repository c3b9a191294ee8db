use Rattle.nntp_kept_articles.proofs.{Base.{rules, refl, ap, sym, ◌∙◌, unwrap_or, unsent, Unsent, arith, false}, KeptArticles.{of_denied, new_kept}}
use Rattle.nntp_kept_articles.proofs.KeptIds.{kept_new, same_key}
use Rattle.nntp_kept_articles.proofs.articles.Articles.stand.Goals as goal

pub returns-then-is_denied-clause-added : goal.returns-then-is_denied-clause-added
returns-then-is_denied-clause-added g c facts kept = of_denied facts c.args.self.now c.args.id.now unsent kept refl (sym c.is_denied.ensures ∙ c.if-is_denied.true)

pub returns-clause-added : goal.returns-clause-added
returns-clause-added g c facts kept =
    let M = c.args.self.now in
    let free = sym c.is_denied.ensures ∙ c.if-is_denied.false in
    let found = c.or_insert.ensures.value ∙ ap (λ o. unwrap_or o Unsent) c.in_ok-entry.ensures.value in
    new_kept facts M c.args.id.now unsent kept false refl _
    (kept_new c.self.inside.known.entries c.self.inside.denied.keys M c.self.view_is c.in_ok-from_str.field-0 c.args.id.now c.in_ok-from_str.ensures.ok free Unsent
    c.or_insert.result.now refl found _ (search rules)) (grind (arith, free))

pub returns-clause-text : goal.returns-clause-text
returns-clause-text g c = grind (arith, same_key c.in_ok-from_str.field-0 c.key.result.now c.in_ok-text.text c.args.id.now)
