use Rattle.std.proofs.Common.{[]}
use Rattle.nntp_wire.proofs.{BlockLemmas.{sends-received}, SubBlockLemmas.{received-of}}
use Rattle.nntp_wire.proofs.owned_block.OwnedBlock.new.Goals as goal

pub invariant_of-result : goal.invariant_of-result
invariant_of-result g c = sends-received c.new.result.items ([], record { clean = tt; whole = c.new.ensures.items })

pub returns : goal.returns
returns g c = received-of c.new.result.items [] (record { clean = tt; whole = c.new.ensures.items })
