use Rattle.std.proofs.Common.{arith}
use Rattle.nntp_wire.proofs.OctetLemmas.{octets-fit, sent-octets}
use Rattle.nntp_wire.proofs.owned_block.block_of.Goals as goal

pub returns-clause-octets : goal.returns-clause-octets
returns-clause-octets c = grind (arith, sent-octets, octets-fit)
