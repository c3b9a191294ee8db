use Rattle.std.{proofs.{lemmas.Result.{on_ok_weaker}, Common.{◌∙◌, ◌++◌, ap}}, specs.List.{flat_map}}
use Rattle.nntp_facts.specs.{Inner.PointView.{point_of}, Standing.{stands_of}}
use Rattle.nntp_explain.{specs.{Reasons.{about_line, rest_line}, Says.{said_lines, reason_lines, told_line}}, proofs.SaidLines.{conflict_told}}
use Rattle.nntp_explain.proofs.conflict.put_conflict.Goals as goal

pub returns : goal.returns
returns g c =
    let point = point_of c.args.point in
    let answers = c.args.answers.now in
    let core = c.args.core.now in
    on_ok_weaker c.put_reasons.result
    (λ put. conflict_told c.args.text.now.items (about_line point) (rest_line c.args.here answers core.rest) (λ k. said_lines c.args.how k point (stands_of c.args.bad.now))
    (λ k. flat_map (reason_lines c.args.here c.args.how k point answers) core.places)
    c.told_line-line.result (told_line point (stands_of c.args.bad.now) answers core.places) c.put_about.new.text.items c.put_said.new.text.items c.put_rest.new.text.items c.put_reasons.new.text.items
    c.in_ok-put_about.ensures c.in_ok-put_said.ensures
    (c.in_ok-put_rest.ensures ∙ ap (λ rest. c.put_said.new.text.items ++ rest_line c.args.here answers rest) c.rest.ensures)
    (put ∙ ap (λ places. c.put_rest.new.text.items ++ flat_map (reason_lines c.args.here c.args.how c.told_line-line.result point answers) places) c.places-2.ensures)
    (c.told_line-line.ensures.line ∙ ap (told_line point (stands_of c.args.bad.now) answers) c.places.ensures))
    c.put_reasons.ensures
