use Rattle.std.{proofs.{Common.{◌≡◌, None, Some, option_map, sym, ap, ◌∙◌}, lemmas.Bool.{true≢false}}, specs.{Prelude.{unwrap_or}, FinMap.{get, get-empty}}}
use Rattle.std.specs.{FinMap.{empty}, Ordering.{nat_cmp}}
use Rattle.nntp_spool.proofs.verification.last_group.LastGroup.has_id.Goals as goal

pub returns-in_default-clause-has : goal.returns-in_default-clause-has
returns-in_default-clause-has g c =
    let none : get c.args.self.now.groups c.args.word.now ≡ None =
    ap (λ s. get s.groups c.args.word.now) (sym c.self.view_is) ∙ sym c.turn_to.ensures.numbers ∙ ap (option_map (λ g. g.1.now)) c.in_default.is in (
      λ t. absurd (true≢false (sym t)),
      λ h. absurd (let no : None ≡ Some c.args.id.now = sym (get-empty nat_cmp c.args.number) ∙ ap (λ o. get (unwrap_or o empty) c.args.number) (sym none) ∙ h in cc),
    )
