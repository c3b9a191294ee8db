use Rattle.std.proofs.Common.{arith}
use Rattle.nntp_spool.proofs.verification.lookups.meet.Goals as goal

pub returns-in-Lists-clause-meet : goal.returns-in-Lists-clause-meet
returns-in-Lists-clause-meet g c = let these = rw c.in-Lists.is at c.requires.listed in rw (c.in-Lists.is, these.0) c.lists.ensures

pub returns-in-Estimates-clause-meet : goal.returns-in-Estimates-clause-meet
returns-in-Estimates-clause-meet g c = grind arith

pub returns-in-StandsAt-clause-meet : goal.returns-in-StandsAt-clause-meet
returns-in-StandsAt-clause-meet g c = grind arith

pub returns-in-StandsNowhere-clause-meet : goal.returns-in-StandsNowhere-clause-meet
returns-in-StandsNowhere-clause-meet g c = grind arith

pub returns-in-StepsUp-clause-meet : goal.returns-in-StepsUp-clause-meet
returns-in-StepsUp-clause-meet g c = grind arith

pub returns-in-StepsDown-clause-meet : goal.returns-in-StepsDown-clause-meet
returns-in-StepsDown-clause-meet g c = grind arith

pub returns-then-is_some-clause-meet : goal.returns-then-is_some-clause-meet
returns-then-is_some-clause-meet g c = grind arith

pub returns-then-is_some-2-clause-meet : goal.returns-then-is_some-2-clause-meet
returns-then-is_some-2-clause-meet g c = grind arith
