use Rattle.nntp_theory.proofs.Streams.PairedStreams.{explained_end}
use Rattle.nntp_theory.proofs.laws.pairing_to_the_end_is_explained.Goals as goal

pub returns : goal.returns
returns c = explained_end
