use Rattle.std.{specs.FinMap.{get-empty}, proofs.Common.{arith}}
use Rattle.nntp_kept.proofs.kept.Kept.new.Goals as goal

pub returns : goal.returns
returns g c = grind (arith, get-empty)
