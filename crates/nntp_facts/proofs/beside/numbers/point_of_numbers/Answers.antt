use Rattle.nntp_facts.proofs.{Base.{◌++◌, ap, option_map, if_ok, of_group, point_of, statement_of, rank_of_numbers}, PointsFound.KindsOfPoints.{group_point}}
use Rattle.nntp_facts.proofs.PointsFound.{KindsOfPoints.{listed_point, no_numbers_free}, NumbersBeside.{above_one, below_five}}
use Rattle.nntp_kept.specs.Inner.SayingView.{active_said}
use Rattle.nntp_facts.proofs.beside.numbers.point_of_numbers.Goals as goal

pub returns-in-Some : goal.returns-in-Some
returns-in-Some g c = if_ok c.point_of_group.result (λ point found profile facts more limit h before.
    group_point profile facts c.args.kept.now (statement_of c.args.told.now) more h (rank_of_numbers c.args.kind) (above_one c.args.kind) (below_five c.args.kind)
    (of_group c.in-Some.group) (ap (option_map of_group) c.in-Some.is) (option_map point_of point)
    (λ asks says whole. found profile facts (facts ++ more) asks limit h.kept says whole before)) c.point_of_group.ensures

pub returns-in-Some-groups : goal.returns-in-Some-groups
returns-in-Some-groups g c = if_ok c.point_of_listed.result (λ point found profile facts more limit h before.
    listed_point profile facts c.args.kept.now (statement_of c.args.told.now) more h (rank_of_numbers c.args.kind) (above_one c.args.kind) (below_five c.args.kind)
    (active_said c.in-Some-groups.list) (ap (option_map active_said) c.in-Some-groups.is) (option_map point_of point)
    (λ asked. found facts (facts ++ more) h.kept asked before)) c.point_of_listed.ensures

pub returns-in-None-groups : goal.returns-in-None-groups
returns-in-None-groups g c profile facts more limit h before =
    no_numbers_free profile facts c.args.kept.now (statement_of c.args.told.now) more h (rank_of_numbers c.args.kind) (above_one c.args.kind) (below_five c.args.kind)
    (ap (option_map of_group) c.in-None.is) (ap (option_map active_said) c.in-None-groups.is)
