use Rattle.nntp_kept.proofs.Base.{[], ◌∷◌, ◌++◌, sym, subst, ◌∙◌, arith, not-true, IsFalse, list_any, ActiveValue, active_value, Bounds, asks_of, AsksStand}
use Rattle.nntp_kept.proofs.{Base.{denies_group, IsKept, told, Agree, IsShownAt}, kept.Kept.may_bound.Goals.{then-is_shown, else-is_shown}}
use Rattle.nntp_kept.proofs.kept.Kept.may_bound.Goals as goal

pub returns-then-not-denies : goal.returns-then-not-denies
returns-then-not-denies g c facts kept t same =
    let k = subst (IsKept facts) (sym c.self.view_is) kept in
    let line : ActiveValue = active_value c.args.line.now in
    let free : IsFalse (list_any (denies_group line.name) facts) = elim c.if-is_shown.branch [
      | then-is_shown w ↦ t.groups line.name (sym same ∙ w.if-is_shown.true)
      | else-is_shown w ↦ sym (w.denies.ensures facts k.names (sym same ∙ w.if-is_shown.false)) ∙ not-true w.denies.result (sym w.value-is ∙ c.if-not-denies.true)
    ] in
    let part = c.of_bounds.result in
    let none = c.of_bounds.ensures.id in
    let joins = c.joins.ensures.at_all (told facts) (Bounds line.low line.high ∷ []) k.groups
    (t.numbers part.name.now) c.of_bounds.ensures.numbers (λ _. c.of_bounds.ensures.bounded)
    (subst (Agree (told facts part.name.now).ids (told facts part.name.now).places) (sym none) tt) (subst (IsShownAt (told facts part.name.now)) (sym none) tt) in
    let stands = subst (λ name. AsksStand (asks_of name facts ++ Bounds line.low line.high ∷ [])) c.of_bounds.ensures.name in
    let back = subst (λ name. AsksStand (asks_of name facts ++ Bounds line.low line.high ∷ [])) (sym c.of_bounds.ensures.name) in grind arith
