use Rattle.std.proofs.Common.{arith, is_ok}
use Rattle.nntp_wire.proofs.SubBlockLemmas.{received-of, sends-append, sends-extended}
use Rattle.nntp_wire.proofs.owned_block.OwnedBlock.extend.Goals as goal

pub invariant_of-self : goal.invariant_of-self
invariant_of-self g c = sends-extended _ _ _ (is_ok c.extend_from_slice.result) c.self.invariant c.block.invariant c.extend_from_slice.ensures.items

pub returns-clause-ok : goal.returns-clause-ok
returns-clause-ok g c = grind (arith, received-of, sends-append)
