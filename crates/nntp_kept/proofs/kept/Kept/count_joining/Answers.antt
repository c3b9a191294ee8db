use Rattle.nntp_kept.proofs.Base.{◌≡◌, ◌+◌, ◌≤◌, Bool, List, ◌∷◌, length, sym, ap, subst, ◌∙◌, arith, true≢false, ◌↔◌, AllByRecursion, ActiveValue}
use Rattle.nntp_kept.proofs.Base.{active_value, next_left, Fact, is_shown_group, IsKept, told, shown_lines, bool_byte}
use Rattle.nntp_kept.proofs.kept.Kept.count_joining.Goals as goal

-- where the next line joins, all lines join if those do that are left
joined : (P : ActiveValue → Type 0) (line : ActiveValue) (rest lines all : List ActiveValue) → lines ≡ line ∷ rest → P line
    → AllByRecursion P lines ↔ AllByRecursion P all → AllByRecursion P rest ↔ AllByRecursion P all
joined P line rest lines all steps here known = grind arith

-- the next line is counted if its group is shown
counted : (facts : List Fact) (line : ActiveValue) (rest lines : List ActiveValue) (b : Bool) → lines ≡ line ∷ rest → is_shown_group facts line.name ≡ b
    → length (shown_lines facts lines) ≡ bool_byte b + length (shown_lines facts rest)
counted facts line rest lines b steps is = grind arith

pub returns-then-not-may_bound : goal.returns-then-not-may_bound
returns-then-not-may_bound g c facts kept t all =
    let k = subst (IsKept facts) (sym c.self.view_is) kept in
    let steps = next_left active_value c.args.groups.now c.loop-line.line-index c.line-item.result c.loop-line-test.true c.line-item.is in
    grind (arith, steps, c.if-not-may_bound.ensures facts kept t, c.is_shown-is_shown.ensures (told facts) k.groups, c.as_slice.ensures.value, c.loop-line.invariant.1 facts kept t, true≢false)

pub loop-line-preserved : goal.loop-line-preserved
loop-line-preserved g c =
    let steps = next_left active_value c.args.groups.now c.loop-line.line-index c.line-item.result c.loop-line-test.true c.line-item.is in
    let more = c.from-shown.ensures in (
      (let room = c.loop-line.invariant.0 in let one : bool_byte c.is_shown-is_shown.result ≤ 1 = grind arith in omega arith),
      λ facts kept t.
          let is = c.is_shown-is_shown.ensures (told facts) (subst (IsKept facts) (sym c.self.view_is) kept).groups ∙ ap (is_shown_group facts) c.as_slice.ensures.value in
          grind (arith, counted, joined),
    )
