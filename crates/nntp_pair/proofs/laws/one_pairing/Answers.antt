use Rattle.nntp_pair.proofs.PairingLemmas.{one-pairing}
use Rattle.nntp_pair.proofs.laws.one_pairing.Goals as goal

pub returns : goal.returns
returns c = one-pairing
