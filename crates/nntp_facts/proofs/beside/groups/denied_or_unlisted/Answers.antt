use Rattle.std.proofs.lemmas.Grind.{common_steps}
use Rattle.nntp_facts.proofs.{Base.{arith, sym, subst, if_ok, AreKeptGroups}, PointsFound.KindsOfPoints.{unlisted_group}}
use Rattle.nntp_kept.specs.Inner.SayingView.{active_said}
use Rattle.nntp_facts.proofs.beside.groups.denied_or_unlisted.Goals as goal

pub returns-in-None : goal.returns-in-None
returns-in-None g c = if_ok c.unlisted.result (λ name unlisted profile facts more t h e.
    unlisted_group profile facts c.args.kept.now t more h (active_said c.args.list.now) e (grind (arith, c.first_denied.ensures facts h.kept h.together))
    name (unlisted facts (subst (AreKeptGroups facts) (sym c.groups.ensures) h.kept.groups) h.together)) c.unlisted.ensures

pub returns-in-Some : goal.returns-in-Some
returns-in-Some g c profile facts more t h e = grind (arith, common_steps, c.first_denied.ensures facts h.kept h.together)
