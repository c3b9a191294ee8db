use Rattle.nntp_pair.proofs.PassedLemmas.{one-passed}
use Rattle.nntp_pair.proofs.laws.one_passed_over.Goals as goal

pub returns : goal.returns
returns c = one-passed
