use Rattle.std.proofs.Common.{arith}
use Rattle.nntp_wire.proofs.{BlockLemmas.{sends-received}, SubBlockLemmas.{received-of, sends-snoc}}
use Rattle.nntp_wire.proofs.owned_block.OwnedBlock.push.Goals as goal

pub invariant_of-self : goal.invariant_of-self
invariant_of-self g c =
    let old = c.self.inside.sent.items in
    sends-received c.put_line.new.sent.items (_, sends-snoc old c.put_line.new.sent.items c.args.line.now (_, c.self.invariant) c.requires c.in-Ok.ensures.ok)

pub returns-in-Ok-clause-ok : goal.returns-in-Ok-clause-ok
returns-in-Ok-clause-ok g c = grind (arith, received-of, sends-snoc)
