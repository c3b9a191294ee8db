use Rattle.std.proofs.{lemmas.Grind.{common_steps}, Common.{arith}}
use Rattle.nntp_wire.proofs.range.parse_range.Goals as goal

pub returns-in_ok-number-in-len1-up : goal.returns-in_ok-number-in-len1-up
returns-in_ok-number-in-len1-up c = grind (arith, common_steps)

pub returns-in_err-number-in-len1-up : goal.returns-in_err-number-in-len1-up
returns-in_err-number-in-len1-up c = grind (arith, common_steps)
