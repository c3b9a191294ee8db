use Rattle.std.specs.Prelude.{⊤}
use Rattle.nntp_theory.proofs.Streams.ExplainedOrBad.{explained_or_bad, explained_not_bad, bad_once}
use Rattle.nntp_theory.proofs.laws.streams_are_explained_or_bad.Goals as goal

pub returns : goal.returns
returns c = record { explained_or_bad = explained_or_bad; never_both = explained_not_bad; one_bad = bad_once (λ S. ⊤) }
