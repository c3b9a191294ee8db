use Rattle.nntp_several.proofs.WaysToOutcome.{outcome_at_all_ends}
use Rattle.nntp_several.proofs.laws.outcome_at_the_ends.Goals as goal

pub returns : goal.returns
returns c = outcome_at_all_ends
