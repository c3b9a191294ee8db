use Rattle.nntp_facts.proofs.Base.{◌++◌, ap, sym, subst, arith, option_map, IsPointOf, statement_of}
use Rattle.nntp_kept.specs.Inner.SayingView.{active_said}
use Rattle.nntp_facts.proofs.beside.groups.denied_group.Goals as goal

pub returns-in-None : goal.returns-in-None
returns-in-None g c profile facts more h = grind (arith, c.denied_by_name.ensures profile facts more h (ap (option_map active_said) c.in-None.is))

pub returns-in_ok-denied_or_unlisted-in-Some : goal.returns-in_ok-denied_or_unlisted-in-Some
returns-in_ok-denied_or_unlisted-in-Some g c profile facts more h = subst (IsPointOf (facts ++ more) 1) (sym c.point.ensures)
    (c.in_ok-denied_or_unlisted-in-Some.ensures profile facts more (statement_of c.args.told.now) h (ap (option_map active_said) c.in-Some.is))
