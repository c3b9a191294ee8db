use Rattle.nntp_kept.proofs.Base.{sym, ap, subst, ◌∙◌, option_map, IfSome, rc_str_bytes, on_ok, ◌++◌, IsTextOf, GroupJoins, of_group, AreKeptGroups, told}
use Rattle.nntp_kept.proofs.{Base.{asked_id, facts_in}, Keeping.PartsJoin.{groups_alike, says_then, bounded_then, agree_told, group_changes}}
use Rattle.nntp_kept.proofs.kept.Kept.add_new_group.Goals as goal

pub returns-in-Some-clause-groups : goal.returns-in-Some-clause-groups
returns-in-Some-clause-groups g c =
    on_ok c.add.result (λ added facts s asks is no_list together may joins kept again text.
    let same = is ∙ ap (option_map of_group) c.in-Some.is in
    let named = subst (λ o. IfSome o (λ g. IsTextOf (option_map (λ text. rc_str_bytes text) c.args.text) g.id)) same (text c.in_default.not-Again) in
    let part = of_group c.in-Some.group in
    added (told facts) (asks ++ asked_id part.id) named (subst (λ k. AreKeptGroups facts k.groups) (sym c.self.view_is) kept) (says_then facts s asks may part same)
    (bounded_then facts s asks may part same) (agree_told facts together part.name part.id) (subst (λ o. IfSome o (GroupJoins facts asks)) same joins).1
    (told (facts ++ facts_in s asks)) (group_changes facts s asks no_list may part same)) c.add.ensures

pub returns-in-None-clause-groups : goal.returns-in-None-clause-groups
returns-in-None-clause-groups g c facts s asks is no_list together may joins kept again text =
    groups_alike facts s asks no_list may (is ∙ ap (option_map of_group) c.in-None.is) c.args.self.now.groups kept
