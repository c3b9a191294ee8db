use Rattle.nntp_theory.proofs.Streams.OneOutcome.{outcome_at_response, outcome_at_unfitting}
use Rattle.nntp_theory.proofs.laws.outcome_at_a_response.Goals as goal

pub returns : goal.returns
returns c = record { unpermitted = outcome_at_response; unfitting = outcome_at_unfitting }
