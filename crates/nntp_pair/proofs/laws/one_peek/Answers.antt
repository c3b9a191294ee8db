use Rattle.nntp_pair.proofs.FedLaws.{one-peek}
use Rattle.nntp_pair.proofs.laws.one_peek.Goals as goal

pub returns : goal.returns
returns c = one-peek
