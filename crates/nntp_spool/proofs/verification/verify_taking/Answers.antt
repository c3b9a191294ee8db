use Rattle.std.proofs.Common.{arith}
use Rattle.nntp_spool.proofs.VerifiedPairs.{verified_by_same}
use Rattle.nntp_spool.proofs.verification.verify_taking.Goals as goal

pub returns : goal.returns
returns g c = grind (arith, verified_by_same)
