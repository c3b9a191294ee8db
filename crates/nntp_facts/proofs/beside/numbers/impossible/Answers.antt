use Rattle.nntp_facts.proofs.{Base.{ap, refl, option_map, of_group, statement_of}, PointsFound.KindsOfPoints.{step_found, no_step, possible_step}}
use Rattle.nntp_facts.proofs.beside.numbers.impossible.Goals as goal

pub returns-in_default : goal.returns-in_default
returns-in_default c profile facts more k h = no_step profile facts k (statement_of c.args.told.now) more h (ap (option_map of_group) c.in_default.is)

pub returns-then-group : goal.returns-then-group
returns-then-group c profile facts more k h = possible_step profile facts k (statement_of c.args.told.now) more h (of_group c.in-Some.group) (ap (option_map of_group) c.in-Some.is) c.if-group.true

pub returns : goal.returns
returns c profile facts more k h = (step_found profile facts k (statement_of c.args.told.now) more h (of_group c.in-Some.group) (ap (option_map of_group) c.in-Some.is) c.if-group.false, refl)
