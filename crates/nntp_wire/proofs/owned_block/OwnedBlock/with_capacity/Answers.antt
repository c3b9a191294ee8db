use Rattle.std.proofs.Common.{[]}
use Rattle.nntp_wire.proofs.{BlockLemmas.{sends-received}, SubBlockLemmas.{received-of}}
use Rattle.nntp_wire.proofs.owned_block.OwnedBlock.with_capacity.Goals as goal

pub invariant_of-result : goal.invariant_of-result
invariant_of-result g c = sends-received c.in_ok-with_capacity.field-0.items ([], record { clean = tt; whole = c.in_ok-with_capacity.ensures.items })

pub returns : goal.returns
returns g c = received-of c.in_ok-with_capacity.field-0.items [] (record { clean = tt; whole = c.in_ok-with_capacity.ensures.items })
