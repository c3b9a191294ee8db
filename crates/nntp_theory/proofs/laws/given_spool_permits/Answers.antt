use Rattle.nntp_theory.proofs.Given.GivenPermits.{stands, given_permits}
use Rattle.nntp_theory.proofs.laws.given_spool_permits.Goals as goal

pub returns : goal.returns
returns c = λ profile S G ps answers spool run. let s = stands profile S ps answers spool run in given_permits profile G ps answers s.0 s.1
