use Rattle.std.proofs.Common.{arith}
use Rattle.nntp_content.proofs.ShownNumbers.{id_is, no_id}
use Rattle.nntp_content.proofs.numbers.Numbers.id.Goals as goal

pub returns-in_err-numbered : goal.returns-in_err-numbered
returns-in_err-numbered g c = grind (arith, no_id)

pub returns-then-numbered-number : goal.returns-then-numbered-number
returns-then-numbered-number g c = grind (arith, id_is)

pub returns-else-numbered-number : goal.returns-else-numbered-number
returns-else-numbered-number g c = grind (arith, no_id)
