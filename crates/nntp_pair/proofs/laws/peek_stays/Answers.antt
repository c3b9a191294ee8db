use Rattle.nntp_pair.proofs.FedLaws.{peek-stays}
use Rattle.nntp_pair.proofs.laws.peek_stays.Goals as goal

pub returns : goal.returns
returns c = peek-stays
