use Rattle.std.proofs.Common.{arith}
use Rattle.nntp_wire.proofs.NameLemmas.{name-by_octets}
use Rattle.nntp_wire.proofs.group_name.is_name_text.Goals as goal

pub returns-then-not-is_empty : goal.returns-then-not-is_empty
returns-then-not-is_empty c = grind (arith, name-by_octets)
