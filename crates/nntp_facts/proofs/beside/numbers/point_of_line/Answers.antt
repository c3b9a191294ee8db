use Rattle.nntp_facts.proofs.Base.{◌≡◌, ◌++◌, ◌∷◌, [], sym, subst, option_map, Bounds, asks_of, AreKept, told, point_of, rank_of_numbers, if_ok}
use Rattle.nntp_facts.{proofs.PointsFound.NumbersBeside.{bounded_behind}, specs.Inner.Points.{IsPointIn}}
use Rattle.nntp_facts.proofs.beside.numbers.point_of_line.Goals as goal

pub returns : goal.returns
returns g c = if_ok c.point_with.result (λ point found facts all kept asked before.
    let line = c.args.line in
    let more = Bounds line.low line.high ∷ [] in
    let is = c.as_slice-name.ensures.value in
    let start = c.in_ok-numbers.ensures (told facts) (subst (AreKept (told facts)) (sym c.groups.ensures) kept.groups) in
    let bounded = bounded_behind (asks_of c.as_slice-name.result.now facts) more c.of_bounds.ensures.bounded in
    let whole = subst (λ n. asks_of n all ≡ asks_of n facts ++ more) (sym is) asked in
    subst (λ n. IsPointIn all n (rank_of_numbers c.args.kind) (option_map point_of point)) is
    (found all _ more start c.of_bounds.ensures.numbers whole bounded before)) c.point_with.ensures
