use Rattle.nntp_pair.proofs.NextLemmas.{one-end}
use Rattle.nntp_pair.proofs.laws.one_end.Goals as goal

pub returns : goal.returns
returns c = one-end
