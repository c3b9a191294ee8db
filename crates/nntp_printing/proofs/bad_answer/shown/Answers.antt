use Rattle.std.proofs.{Common.{ℕ, ◌∙◌, ap, take}, lemmas.List.{take_min}}
use Rattle.nntp_printing.proofs.bad_answer.shown.Goals as goal

pub returns : goal.returns
returns c = c.split_at.ensures.front ∙ ap (λ n. take n c.args.line.now) c.min.ensures ∙ take_min {X = ℕ} 512 c.args.line.now
