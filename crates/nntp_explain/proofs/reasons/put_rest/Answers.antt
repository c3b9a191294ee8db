use Rattle.std.{proofs.lemmas.Result.{on_ok_weaker}, specs.Prelude.{codes}}
use Rattle.nntp_explain.proofs.{SaidLines.{extended}, SessionAnswers.{rest_told}}
use Rattle.nntp_explain.proofs.reasons.put_rest.Goals as goal

pub returns : goal.returns
returns g c =
    let text = c.put_answer_at-2.new.text.items in
    on_ok_weaker c.extend_from_slice.result
    (rest_told c.args.here c.args.answers.now c.args.rest c.in-Some.bound c.saturating_sub.result
    c.args.text.now.items c.put_answer_at.new.text.items text c.extend_from_slice.new.self.items
    c.in-Some.is c.saturating_sub.ensures c.in_ok-put_answer_at.ensures c.in_ok-put_answer_at-2.ensures)
    (extended c.extend_from_slice.result _ text (codes "\n") c.extend_from_slice.ensures.items)
