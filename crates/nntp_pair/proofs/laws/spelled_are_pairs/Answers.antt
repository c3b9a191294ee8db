use Rattle.nntp_pair.proofs.SpelledLemmas.{spelled-pairs}
use Rattle.nntp_pair.proofs.laws.spelled_are_pairs.Goals as goal

pub returns : goal.returns
returns c = spelled-pairs
