use Rattle.std.proofs.Common.{ap, length, arith}
use Rattle.nntp_wire.{specs.Inner.Block.{received}, proofs.SubBlockLemmas.{length-lines}}
use Rattle.nntp_wire.proofs.block.Block.lines.Goals as goal

pub returns-clause-short : goal.returns-clause-short
returns-clause-short c = omega (arith, length-lines (received c.self.inside.sent.now), ap length c.self.invariant.whole, ap length c.self.view_is, c.self.told.0)
