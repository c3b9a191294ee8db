use Rattle.std.proofs.Common.{None, Some}
use Rattle.nntp_spool.proofs.ListedNumbers.{from_above}
use Rattle.nntp_spool.proofs.verification.lookups.next_from.Goals as goal

pub returns-in-Some-next_above : goal.returns-in-Some-next_above
returns-in-Some-next_above g c = rw c.in-Some.is (from_above c.args.numbers.now c.in-Some.number (Some c.in-Some-next_above.above) c.in-Some-next_above.ensures.0)

pub returns-in-None-next_above : goal.returns-in-None-next_above
returns-in-None-next_above g c = rw c.in-Some.is (from_above c.args.numbers.now c.in-Some.number None c.in-None-next_above.ensures)
