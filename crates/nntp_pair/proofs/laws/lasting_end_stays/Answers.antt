use Rattle.nntp_pair.proofs.PairingLemmas.{pairing-stays}
use Rattle.nntp_pair.proofs.laws.lasting_end_stays.Goals as goal

pub returns : goal.returns
returns c = pairing-stays
