use Rattle.std.{proofs.{Common.{◌≡◌, ◌∙◌, ◌++◌, ap, append_assoc, ℕ, List}, lemmas.Result.{on_ok_weaker}}, specs.{Option.{option_map}, Prelude.{codes}}}
use Rattle.nntp_printing.specs.{BadAnswer.{command_line, shown}, Printing.{escaped}}
use Rattle.nntp_explain.specs.Reasons.{answer_text, standing_line}
use Rattle.nntp_explain.proofs.reasons.put_because.Goals as goal

-- five texts, one behind the other
joined : (t t1 t2 t3 t4 t5 w a n b x y z d : List ℕ) → t1 ≡ t ++ w ++ a → t2 ≡ t1 ++ n → t3 ≡ t2 ++ b → t4 ≡ t3 ++ x ++ y ++ z → t5 ≡ t4 ++ d
    → t5 ≡ t ++ (w ++ a ++ n ++ b ++ x ++ y ++ z ++ d)
joined t t1 t2 t3 t4 t5 w a n b x y z d e1 e2 e3 e4 e5 = rw (e5, e4, e3, e2, e1) (simp append_assoc)

pub returns : goal.returns
returns g c =
    let answer = c.args.answer.now in
    on_ok_weaker c.put_standing.result
    (λ put. joined c.args.text.now.items c.put_answer.new.text.items c.push.new.self.items c.put_command.new.text.items c.put_escaped_line.new.text.items c.put_standing.new.text.items
    (codes "because answer ") (answer_text c.args.here answer) (codes "\n") (command_line (option_map shown answer.exchange.place.line)) (codes "answer ")
    (escaped (shown answer.exchange.initial))
    (codes "\n") (standing_line answer.standing) c.in_ok-put_answer.ensures c.in_ok-push.ensures.items
    (c.in_ok-put_command.ensures ∙ ap (λ line. c.push.new.self.items ++ command_line line) (c.shown_line.ensures ∙ ap (option_map shown) c.line.ensures))
    (c.in_ok-put_escaped_line.ensures ∙ ap (λ octets. c.put_command.new.text.items ++ codes "answer " ++ escaped octets ++ codes "\n")
    (c.shown.ensures ∙ ap shown c.initial.ensures)) put) c.put_standing.ensures
