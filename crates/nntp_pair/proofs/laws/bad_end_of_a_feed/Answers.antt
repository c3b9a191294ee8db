use Rattle.nntp_pair.proofs.FedLaws.{bad-pairing}
use Rattle.nntp_pair.proofs.laws.bad_end_of_a_feed.Goals as goal

pub returns : goal.returns
returns c = bad-pairing
