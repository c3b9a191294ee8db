use Rattle.nntp_pair.proofs.PairingLemmas.{places-left}
use Rattle.nntp_pair.proofs.laws.places_go_in_order.Goals as goal

pub returns : goal.returns
returns c = places-left
