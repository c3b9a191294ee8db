use Rattle.std.{proofs.lemmas.Result.{on_ok_weaker}, specs.Prelude.{codes}}
use Rattle.nntp_explain.{specs.Reasons.{field_text}, proofs.SaidLines.{extended, line_ended}}
use Rattle.nntp_explain.proofs.reasons.put_field_line.Goals as goal

pub returns : goal.returns
returns g c =
    let text = c.put_field_name.new.text.items in
    on_ok_weaker c.extend_from_slice.result
    (line_ended c.args.text.now.items (codes "about field ") (field_text c.args.id.now c.args.field) text c.extend_from_slice.new.self.items c.in_ok-put_field_name.ensures)
    (extended c.extend_from_slice.result _ text (codes "\n") c.extend_from_slice.ensures.items)
