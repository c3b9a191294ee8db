use Rattle.nntp_facts.proofs.{Base.{arith, Some, statement_of}, PointsFound.KindsOfPoints.{named_group, missing_group}}
use Rattle.nntp_facts.proofs.beside.groups.denied_by_name.Goals as goal

pub returns-in-Some : goal.returns-in-Some
returns-in-Some g c profile facts more h e =
    let t = statement_of c.args.told.now in
    named_group profile facts c.args.kept.now t more h e (Some c.in-Some.name) (grind (arith, c.denied_of.ensures facts h.kept h.together))

pub returns-in-None : goal.returns-in-None
returns-in-None g c profile facts more h e =
    let t = statement_of c.args.told.now in
    missing_group profile facts c.args.kept.now t more h e
    (grind (arith, c.denied_of.ensures facts h.kept h.together)) c.shown_of.result (c.shown_of.ensures facts h.kept h.together)
