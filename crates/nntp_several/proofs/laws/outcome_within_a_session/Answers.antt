use Rattle.nntp_several.proofs.WaysToOutcome.{outcome_at_octets_of_all, outcome_at_response_of_all}
use Rattle.nntp_several.proofs.laws.outcome_within_a_session.Goals as goal

pub returns : goal.returns
returns c = record { octets = outcome_at_octets_of_all; response = outcome_at_response_of_all }
