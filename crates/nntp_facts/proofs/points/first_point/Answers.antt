use Rattle.nntp_facts.proofs.{Base.{subst, ◌∙◌, option_map, MatchOption, ◌+◌, NoneBefore, point_of, statement_of}, PointsFound.PointsChained.{kind_ranked}}
use Rattle.nntp_facts.proofs.PointsFound.PointsChained.{next_kind, not_nowhere}
use Rattle.nntp_theory.specs.Conflict.{IsFirstPoint}
use Rattle.nntp_facts.proofs.points.first_point.Goals as goal

pub returns-in-Some : goal.returns-in-Some
returns-in-Some g c profile all held =
    let i = c.loop-kind.kind-index in
    subst (λ o. MatchOption (option_map point_of o) (NoneBefore all (i + 1)) (IsFirstPoint all)) c.in-Some.is
    (next_kind profile all _ held (statement_of c.of-told.result) (λ judge marks fits same. c.of-told.ensures judge marks fits (c.numbers.ensures ∙ same)) _ i
    (kind_ranked i _ c.loop-kind-test.true) (c.loop-kind.invariant profile all held) c.in_ok-point.field-0 (c.in_ok-point.ensures profile))

pub loop-kind-preserved : goal.loop-kind-preserved
loop-kind-preserved g c profile all held =
    let i = c.loop-kind.kind-index in
    subst (λ o. MatchOption (option_map point_of o) (NoneBefore all (i + 1)) (IsFirstPoint all)) c.in_default.is
    (next_kind profile all _ held (statement_of c.of-told.result) (λ judge marks fits same. c.of-told.ensures judge marks fits (c.numbers.ensures ∙ same)) _ i
    (kind_ranked i _ c.loop-kind-test.true) (c.loop-kind.invariant profile all held) c.in_ok-point.field-0 (c.in_ok-point.ensures profile))

pub returns : goal.returns
returns g c profile all held =
    not_nowhere profile all _ held (statement_of c.of-told.result) (λ judge marks fits same. c.of-told.ensures judge marks fits (c.numbers.ensures ∙ same)) c.loop-kind.kind-index
    c.loop-kind-test.false (c.loop-kind.invariant profile all held)
