use Rattle.std.proofs.Common.{arith}
use Rattle.nntp_spool.proofs.AskedCounts.{one_more, found_again}
use Rattle.nntp_spool.proofs.verification.asked_counts.AskedCounts.count.Goals as goal

pub returns-clause-counted : goal.returns-clause-counted
returns-clause-counted g c = grind (arith, one_more)

pub returns-clause-kept : goal.returns-clause-kept
returns-clause-kept g c = grind (arith, found_again)
