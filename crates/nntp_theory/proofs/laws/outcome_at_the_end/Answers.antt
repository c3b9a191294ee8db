use Rattle.nntp_theory.proofs.Streams.OneOutcome.{outcome_at_end}
use Rattle.nntp_theory.proofs.laws.outcome_at_the_end.Goals as goal

pub returns : goal.returns
returns c = outcome_at_end
