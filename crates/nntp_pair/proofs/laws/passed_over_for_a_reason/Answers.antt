use Rattle.nntp_pair.proofs.PassedLemmas.{passed-reason}
use Rattle.nntp_pair.proofs.laws.passed_over_for_a_reason.Goals as goal

pub returns : goal.returns
returns c = passed-reason
