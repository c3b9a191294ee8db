use Rattle.nntp_facts.proofs.Base.{◌≡◌, sym, subst, arith, IsFalse, IsGroupName, is_shown_group, shown_named, AreKept, told, cases_Bool}
use Rattle.std.specs.Prelude.{MatchOption, SomeIff, IsTrue}
use Rattle.nntp_facts.proofs.beside.groups.shown_named.Goals as goal

pub returns-in_err-group : goal.returns-in_err-group
returns-in_err-group g c facts kept together =
    let name = c.args.name.now in
    subst (λ o. MatchOption o (IsFalse (is_shown_group facts name)) (λ group. (name ≡ group) × IsTrue (is_shown_group facts group))) (sym c.from_residual.ensures)
    (grind (arith, cases_Bool, subst (λ o. SomeIff o (IsGroupName name) name) c.in_err-group.was c.parse.ensures, shown_named facts name together.well_formed))

pub returns : goal.returns
returns g c facts kept together =
    let name = c.args.name.now in
    grind (arith, c.is_shown.ensures (told facts) (subst (AreKept (told facts)) (sym c.groups.ensures) kept.groups), subst (λ o. SomeIff o (IsGroupName name) name) c.in_ok-group.was c.parse.ensures)
