use Rattle.nntp_theory.proofs.Given.{SessionsByFacts.{given_exists}, GivenPermits.{stands}}
use Rattle.nntp_theory.proofs.laws.given_spool_exists.Goals as goal

pub returns : goal.returns
returns c = λ profile S ps answers spool run small. (_, given_exists profile ps answers (stands profile S ps answers spool run).0 small)
