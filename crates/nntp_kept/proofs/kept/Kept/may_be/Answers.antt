use Rattle.nntp_kept.proofs.Base.{◌≡◌, Bool, not, sym, subst, arith, ◌↔◌, IsTrue, IsFalse, IsKept, told}
use Rattle.nntp_kept.proofs.kept.Kept.may_be.Goals as goal

not_is : (b d : Bool) → b ≡ d → IsTrue (not b) ↔ IsFalse d
not_is b d e = grind arith

pub returns-then-is_shown : goal.returns-then-is_shown
returns-then-is_shown g c facts kept t =
    grind (arith, t.groups c.args.name.now, c.is_shown.ensures (told facts) (subst (IsKept facts) (sym c.self.view_is) kept).groups, c.as_slice.ensures.value)

pub returns-else-is_shown : goal.returns-else-is_shown
returns-else-is_shown g c facts kept t =
    let k = subst (IsKept facts) (sym c.self.view_is) kept in
    grind (arith, not_is, c.denies.ensures facts k.names, c.is_shown.ensures (told facts) k.groups, c.as_slice.ensures.value)
