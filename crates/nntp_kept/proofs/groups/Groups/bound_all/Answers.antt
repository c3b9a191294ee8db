use Rattle.nntp_kept.proofs.Base.{map, AreKeptGroups, ◌∷◌, IsTextOf, active_value, subst, [], ◌++◌, arith, Bounds, GroupsAre, told, Agree, take, MayShow}
use Rattle.nntp_kept.proofs.{Base.{one_more, ActiveValue, sym, take_all, None}, Keeping.{FactsOfOneGroup.{told_same}, ListedGroups.{one_more_bound, listing}}}
use Rattle.nntp_kept.proofs.groups.Groups.bound_all.Goals as goal

pub loop-group-init : goal.loop-group-init
loop-group-init g c facts wildmat kept name = search told_same

pub loop-group-preserved : goal.loop-group-preserved
loop-group-preserved g c facts wildmat kept =
    let groups = c.args.groups.now in
    let i = c.loop-group.group-index in
    let so_far = map active_value (take i groups) in
    let line : ActiveValue = active_value c.group-item.result in
    let before = told (listing facts wildmat so_far) in
    let after = told (listing facts wildmat (so_far ++ line ∷ [])) in
    let part = c.of_bounds.result in
    let none = c.of_bounds.ensures.id in
    subst (λ lines. AreKeptGroups (facts ++ GroupsAre wildmat lines ∷ []) c.add.new.self) (sym (one_more active_value groups i c.group-item.result c.loop-group-test.true c.group-item.is))
    (c.in_ok-add.ensures before (Bounds line.low line.high ∷ []) (subst (IsTextOf None) (sym none) tt)
    (c.loop-group.invariant facts wildmat kept) c.of_bounds.ensures.numbers (λ _. c.of_bounds.ensures.bounded)
    (subst (λ id. Agree (before part.name.now).ids (before part.name.now).places id) (sym none) tt) (subst (MayShow (before part.name.now)) (sym none) tt) after
    (grind (arith, none, c.of_bounds.ensures.name, one_more_bound facts wildmat so_far line)))

pub returns : goal.returns
returns g c facts wildmat kept = grind (arith, take_all)
