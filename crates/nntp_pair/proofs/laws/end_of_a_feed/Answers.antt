use Rattle.nntp_pair.proofs.FedLaws.{end-pairing}
use Rattle.nntp_pair.proofs.laws.end_of_a_feed.Goals as goal

pub returns : goal.returns
returns c = end-pairing
