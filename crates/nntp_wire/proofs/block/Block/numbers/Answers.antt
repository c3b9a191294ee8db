use Rattle.std.proofs.Common.{ap, length, arith}
use Rattle.nntp_wire.proofs.ListingLemmas.{listed_numbers-few}
use Rattle.nntp_wire.proofs.block.Block.numbers.Goals as goal

pub returns-clause-short : goal.returns-clause-short
returns-clause-short c = omega (arith, listed_numbers-few c.lines.result, ap length c.lines.ensures.lines, c.lines.ensures.short)
