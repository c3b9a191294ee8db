use Rattle.std.{proofs.{Common.{◌≡◌, ◌++◌, List, ℕ, ap, append_assoc, arith, sym}, lemmas.Result.{on_ok_weaker}}, specs.Prelude.{codes, decimal}}
use Rattle.nntp_explain.specs.Reasons.{due_word, fault_word, misspelling_line}
use Rattle.nntp_explain.proofs.reasons.put_misspelling.Goals as goal

-- a label, a number, and the end of the line are another text, that is the same
ended : (text label number space word last end whole new : List ℕ) → new ≡ text ++ label ++ number ++ end → end ≡ space ++ word ++ last
    → label ++ number ++ space ++ word ++ last ≡ whole → new ≡ text ++ whole
ended text label number space word last end whole new put ends is = grind (arith, append_assoc)

pub returns-in-WrongArgument : goal.returns-in-WrongArgument
returns-in-WrongArgument g c =
    on_ok_weaker c.put_place_line.result
    (λ put. ended c.args.text.now.items (codes "why argument ") (decimal c.in-WrongArgument.place) (codes " ") (due_word c.in-WrongArgument.due) (codes "\n") c.due_end.result.now
    (misspelling_line c.args.misspelling) c.put_place_line.new.text.items put c.due_end.ensures (ap misspelling_line (sym c.in-WrongArgument.is))) c.put_place_line.ensures

pub returns-in-WrongLine : goal.returns-in-WrongLine
returns-in-WrongLine g c =
    on_ok_weaker c.put_place_line-in-WrongLine.result
    (λ put. ended c.args.text.now.items (codes "why block line ") (decimal c.in-WrongLine.place) (codes " ") (fault_word c.in-WrongLine.fault) (codes "\n") c.fault_end.result.now
    (misspelling_line c.args.misspelling) c.put_place_line-in-WrongLine.new.text.items put c.fault_end.ensures (ap misspelling_line (sym c.in-WrongLine.is)))
    c.put_place_line-in-WrongLine.ensures
