use Rattle.std.proofs.Common.{arith}
use Rattle.nntp_wire.proofs.PlaceLemmas.{fit-short}
use Rattle.nntp_wire.proofs.block.all_fit.Goals as goal

pub returns : goal.returns
returns c = grind (arith, fit-short)
