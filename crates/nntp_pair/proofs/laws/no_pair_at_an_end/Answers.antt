use Rattle.nntp_pair.proofs.NextLemmas.{next-no-end}
use Rattle.nntp_pair.proofs.laws.no_pair_at_an_end.Goals as goal

pub returns : goal.returns
returns c = next-no-end
