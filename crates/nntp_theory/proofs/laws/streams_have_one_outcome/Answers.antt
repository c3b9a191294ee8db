use Rattle.nntp_theory.proofs.Streams.OneOutcome.{some_outcome, one_outcome, yes_explained}
use Rattle.nntp_theory.proofs.laws.streams_have_one_outcome.Goals as goal

pub returns : goal.returns
returns c = record { some = some_outcome; one = one_outcome; yes = yes_explained }
