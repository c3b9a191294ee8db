use Rattle.std.{proofs.{lemmas.Result.{on_ok_weaker}, Common.{◌≡◌, ◌≢◌, ◌∙◌, ◌++◌, ap, append_assoc, arith, ℕ, List}}, specs.Prelude.{codes, decimal}}
use Rattle.nntp_explain.specs.Reasons.{session_text}
use Rattle.nntp_explain.proofs.reasons.put_answer.Goals as goal

-- the session is another one
another : (here session : ℕ) → session ≢ here → codes " of session " ++ decimal session ≡ session_text here session
another here session other = grind arith

joined : (text label index word number one two : List ℕ) → one ≡ text ++ label ++ index → two ≡ one ++ word ++ number → two ≡ text ++ label ++ (index ++ (word ++ number))
joined text label index word number one two e1 e2 = rw (e2, e1) (simp append_assoc)

pub returns : goal.returns
returns g c =
    let answer = c.args.answer.now in
    on_ok_weaker c.put_number-2.result
    (λ put. joined c.args.text.now.items c.args.label.now (decimal answer.exchange.index) (codes " of session ") (decimal answer.session) c.put_number.new.text.items c.put_number-2.new.text.items
    (c.in_ok-put_number.ensures ∙ ap (λ n. c.args.text.now.items ++ c.args.label.now ++ decimal n) c.index.ensures.value) put
    ∙ ap (λ t. c.args.text.now.items ++ c.args.label.now ++ (decimal answer.exchange.index ++ t)) (another c.args.here answer.session c.if-answer-here.false))
    c.put_number-2.ensures
