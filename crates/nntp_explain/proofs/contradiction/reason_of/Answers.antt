use Rattle.std.proofs.{Common.{arith}, lemmas.Grind.{common_steps}}
use Rattle.nntp_explain.proofs.contradiction.reason_of.Goals as goal

pub returns-then-is_same : goal.returns-then-is_same
returns-then-is_same g c = grind (arith, common_steps)
