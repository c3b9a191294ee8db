use Rattle.std.proofs.Common.{ap, length, arith}
use Rattle.nntp_wire.proofs.ListingLemmas.{active_groups-few}
use Rattle.nntp_wire.proofs.block.Block.groups.Goals as goal

pub returns-clause-short : goal.returns-clause-short
returns-clause-short c = omega (arith, active_groups-few c.lines.result, ap length c.lines.ensures.lines, c.lines.ensures.short)
