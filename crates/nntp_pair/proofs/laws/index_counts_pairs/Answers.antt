use Rattle.nntp_pair.proofs.PairingLemmas.{index-counts}
use Rattle.nntp_pair.proofs.laws.index_counts_pairs.Goals as goal

pub returns : goal.returns
returns c = index-counts
