use Rattle.std.{proofs.{lemmas.Result.{on_ok_weaker}, Common.{◌++◌, ◌∷◌, []}}, specs.Prelude.{codes, decimal}}
use Rattle.nntp_printing.specs.Printing.{escaped}
use Rattle.nntp_explain.{specs.Says.{subject}, proofs.SaidLines.{two_more, three_more}}
use Rattle.nntp_explain.proofs.said_numbers.put_id_line.Goals as goal

pub returns : goal.returns
returns g c =
    let begun = subject (codes "number") c.args.name.now in
    on_ok_weaker c.put_escaped_line.result (λ last. three_more c.args.text.now.items
    (begun ++ codes " " ++ decimal c.args.number) (codes " is ") (escaped c.args.id.now) (10 ∷ []) c.put_number.new.text.items c.put_escaped_line.new.text.items
    (two_more c.args.text.now.items begun (codes " ") (decimal c.args.number) c.put_subject.new.text.items c.put_number.new.text.items c.in_ok-put_subject.ensures c.in_ok-put_number.ensures) last)
    c.put_escaped_line.ensures
