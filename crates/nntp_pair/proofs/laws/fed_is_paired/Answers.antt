use Rattle.nntp_pair.proofs.FedLaws.{fed-paired}
use Rattle.nntp_pair.proofs.laws.fed_is_paired.Goals as goal

pub returns : goal.returns
returns c = fed-paired
