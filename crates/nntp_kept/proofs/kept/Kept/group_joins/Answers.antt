use Rattle.nntp_kept.proofs.Base.{◌≡◌, ◌++◌, Some, sym, ap, subst, ◌∙◌, arith, ◌↔◌, IfSome, IsTrue, option_map, of_group, asked_id, facts_in, IsKept}
use Rattle.nntp_kept.proofs.{Base.{AreKeptGroups, told, GroupJoins}, Keeping.PartsJoin.{agree_told, shown_told, says_then, bounded_then, group_changes}}
use Rattle.nntp_kept.{proofs.Keeping.{PartsJoin.{groups_alike}, SaidAgain.{there_before}}, specs.Inner.Kept.{joins_at_all}}
use Rattle.nntp_kept.proofs.kept.Kept.group_joins.Goals as goal

pub returns-in-Some-clause-at_all : goal.returns-in-Some-clause-at_all
returns-in-Some-clause-at_all g c facts s asks is kept together may =
    let part = of_group c.in-Some.group in
    let same : s.group ≡ Some part = is ∙ ap (option_map of_group) c.in-Some.is in
    subst (λ o. IsTrue (joins_at_all c.joins.result) ↔ IfSome o (GroupJoins facts asks)) (sym same)
    (c.joins.ensures.at_all (told facts) (asks ++ asked_id part.id) (subst (IsKept facts) (sym c.self.view_is) kept).groups (together.numbers part.name)
    (says_then facts s asks may part same) (bounded_then facts s asks may part same) (agree_told facts together part.name part.id) (shown_told facts part.name part.id))

pub returns-in-Some-clause-again : goal.returns-in-Some-clause-again
returns-in-Some-clause-again g c again facts s asks is no_list kept together may =
    let part = of_group c.in-Some.group in
    let same : s.group ≡ Some part = is ∙ ap (option_map of_group) c.in-Some.is in
    subst (λ k. AreKeptGroups (facts ++ facts_in s asks) k.groups) c.self.view_is
    (c.joins.ensures.again again (told facts) (asks ++ asked_id part.id) (subst (IsKept facts) (sym c.self.view_is) kept).groups (says_then facts s asks may part same)
    (agree_told facts together part.name part.id) (shown_told facts part.name part.id) (told (facts ++ facts_in s asks)) (group_changes facts s asks no_list may part same))

pub returns-in-Some-clause-there : goal.returns-in-Some-clause-there
returns-in-Some-clause-there g c again facts s asks is kept may = there_before facts s asks c.self.inside.groups (of_group c.in-Some.group) (is ∙ ap (option_map of_group) c.in-Some.is)
    (subst (IsKept facts) (sym c.self.view_is) kept).groups may (c.joins.ensures.said again)

pub returns-in-None-clause-there : goal.returns-in-None-clause-there
returns-in-None-clause-there g c again facts s asks is kept may = let none = is ∙ ap (option_map of_group) c.in-None.is in grind arith

pub returns-in-None-clause-again : goal.returns-in-None-clause-again
returns-in-None-clause-again g c again facts s asks is no_list kept together may = groups_alike facts s asks no_list may (is ∙ ap (option_map of_group) c.in-None.is) c.args.self.now.groups kept.groups
