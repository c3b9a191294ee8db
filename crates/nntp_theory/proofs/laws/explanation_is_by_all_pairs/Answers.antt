use Rattle.nntp_theory.proofs.Streams.ExplainedPairs.{by_all_pairs}
use Rattle.nntp_theory.proofs.laws.explanation_is_by_all_pairs.Goals as goal

pub returns : goal.returns
returns c = by_all_pairs
