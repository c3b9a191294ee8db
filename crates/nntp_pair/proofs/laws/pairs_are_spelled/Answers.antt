use Rattle.nntp_pair.proofs.SpelledLemmas.{pairs-spelled}
use Rattle.nntp_pair.proofs.laws.pairs_are_spelled.Goals as goal

pub returns : goal.returns
returns c = pairs-spelled
