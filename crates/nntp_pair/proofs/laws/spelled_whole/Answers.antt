use Rattle.nntp_pair.proofs.SpelledLemmas.{spelled-whole}
use Rattle.nntp_pair.proofs.laws.spelled_whole.Goals as goal

pub returns : goal.returns
returns c = spelled-whole
