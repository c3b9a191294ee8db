use Rattle.nntp_pair.proofs.NextLemmas.{one-next}
use Rattle.nntp_pair.proofs.laws.one_next_pair.Goals as goal

pub returns : goal.returns
returns c = one-next
