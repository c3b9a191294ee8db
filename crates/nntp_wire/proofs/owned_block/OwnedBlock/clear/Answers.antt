use Rattle.std.proofs.Common.{[]}
use Rattle.nntp_wire.proofs.{BlockLemmas.{sends-received}, SubBlockLemmas.{received-of}}
use Rattle.nntp_wire.proofs.owned_block.OwnedBlock.clear.Goals as goal

pub invariant_of-self : goal.invariant_of-self
invariant_of-self g c = sends-received c.clear.new.self.items ([], record { clean = tt; whole = c.clear.ensures.items })

pub returns : goal.returns
returns g c = received-of c.clear.new.self.items [] (record { clean = tt; whole = c.clear.ensures.items })
