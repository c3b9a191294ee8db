use Rattle.nntp_pair.proofs.NextDecided.{next-or-end}
use Rattle.nntp_pair.proofs.laws.a_pair_or_an_end.Goals as goal

pub returns : goal.returns
returns c = next-or-end
