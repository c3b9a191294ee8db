use Rattle.std.proofs.Common.{arith}
use Rattle.nntp_wire.proofs.SubBlockLemmas.{length-lines}
use Rattle.nntp_wire.proofs.owned_block.OwnedBlock.as_block.Goals as goal

pub returns-clause-short : goal.returns-clause-short
returns-clause-short g c = grind (arith, length-lines)
