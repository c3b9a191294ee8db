use Rattle.nntp_pair.proofs.PairingLemmas.{pairs-stay}
use Rattle.nntp_pair.proofs.laws.pairs_stay.Goals as goal

pub returns : goal.returns
returns c = pairs-stay
