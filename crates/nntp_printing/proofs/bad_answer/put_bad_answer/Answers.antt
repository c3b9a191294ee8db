use Rattle.std.{proofs.{Common.{◌≡◌, ℕ, List, ◌++◌, arith, append_assoc, codes}, lemmas.Result.{on_ok_weaker}}, specs.Option.{option_copied}}
use Rattle.nntp_printing.specs.{Printing.{escaped}, BadAnswer.{bad_line, command_line}}
use Rattle.nntp_printing.proofs.bad_answer.put_bad_answer.Goals as goal

-- the parts of three calls, put one after the other
put : {first second third : List ℕ} (text line command label shown end : List ℕ) → first ≡ text ++ line → second ≡ first ++ command → third ≡ second ++ label ++ shown ++ end
    → third ≡ text ++ (line ++ command ++ label ++ shown ++ end)
put text line command label shown end one two three = grind (arith, append_assoc)

pub returns : goal.returns
returns g c = on_ok_weaker c.put_escaped_line.result
    (put c.args.text.now.items (bad_line c.args.answer c.args.class) (command_line (option_copied c.args.command)) (codes "answer ") (escaped c.args.reply.now) (codes "\n")
    c.in_ok-put_bad_line.ensures c.in_ok-put_command.ensures) c.put_escaped_line.ensures
