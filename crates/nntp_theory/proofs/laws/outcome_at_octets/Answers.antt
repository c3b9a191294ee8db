use Rattle.nntp_theory.proofs.Streams.OneOutcome.{outcome_at_octets}
use Rattle.nntp_theory.proofs.laws.outcome_at_octets.Goals as goal

pub returns : goal.returns
returns c = outcome_at_octets
