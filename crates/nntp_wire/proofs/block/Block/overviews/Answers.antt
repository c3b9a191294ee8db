use Rattle.std.proofs.Common.{ap, length, arith}
use Rattle.nntp_wire.proofs.ListingLemmas.{overviews_of-few}
use Rattle.nntp_wire.proofs.block.Block.overviews.Goals as goal

pub returns-clause-short : goal.returns-clause-short
returns-clause-short c = omega (arith, overviews_of-few c.lines.result, ap length c.lines.ensures.lines, c.lines.ensures.short)
