use Rattle.std.proofs.{Common.{◌++◌, ◌∙◌, ap, refl}, lemmas.Result.{on_ok_weaker}}
use Rattle.nntp_facts.specs.{Inner.PointView.{point_of}, Standing.{stands_of}}
use Rattle.nntp_explain.specs.Says.{conflict_lines}
use Rattle.nntp_explain.proofs.explainer.contradictions.put_point_of.Goals as goal

pub returns-in-Some : goal.returns-in-Some
returns-in-Some g c =
    let bad = stands_of c.args.bad.now in
    let answers = c.args.answers.now in
    let core = c.args.core.now in
    on_ok_weaker c.put_conflict.result (λ put profile how held.
    let first = rw c.in-Some.is at (c.in_ok-point.ensures profile _ held) in
    let lines = ap (λ how. c.args.text.now.items ++ conflict_lines c.args.here how (point_of c.in-Some.point) bad answers core) how in
    (_, put ∙ lines, (point_of c.in-Some.point, first, refl))) c.put_conflict.ensures

pub returns-in-None : goal.returns-in-None
returns-in-None g c profile how held = absurd (rw c.in-None.is at (c.in_ok-point.ensures profile _ held))
