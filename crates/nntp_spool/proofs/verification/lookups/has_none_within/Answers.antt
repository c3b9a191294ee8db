use Rattle.std.proofs.Common.{None, Some, refl, arith}
use Rattle.nntp_spool.proofs.ListedNumbers.{none_left}
use Rattle.nntp_spool.proofs.verification.lookups.has_none_within.Goals as goal

pub returns-in-None : goal.returns-in-None
returns-in-None g c = (λ t. (none_left c.args.numbers.now c.args.range c.args.before None c.in-None.ensures).1 tt, λ h. refl)

pub returns-in-Some : goal.returns-in-Some
returns-in-Some g c = let none = none_left c.args.numbers.now c.args.range c.args.before (Some c.in-Some.number) c.in-Some.ensures in grind arith
