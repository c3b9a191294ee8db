use Rattle.std.proofs.{lemmas.Grind.{common_steps}, Common.{arith}}
use Rattle.nntp_wire.proofs.misspelling.line_fault.Goals as goal

pub returns : goal.returns
returns c = grind (arith, common_steps)
