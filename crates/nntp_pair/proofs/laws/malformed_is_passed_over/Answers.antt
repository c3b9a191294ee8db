use Rattle.nntp_pair.proofs.PassedLemmas.{passed-exactly}
use Rattle.nntp_pair.proofs.laws.malformed_is_passed_over.Goals as goal

pub returns : goal.returns
returns c = passed-exactly
