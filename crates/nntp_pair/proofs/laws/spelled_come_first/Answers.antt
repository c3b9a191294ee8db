use Rattle.nntp_pair.proofs.SpelledLemmas.{spelled-first}
use Rattle.nntp_pair.proofs.laws.spelled_come_first.Goals as goal

pub returns : goal.returns
returns c = spelled-first
