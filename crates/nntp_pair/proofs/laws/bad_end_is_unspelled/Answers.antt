use Rattle.nntp_pair.proofs.SpelledLemmas.{bad-unspelled}
use Rattle.nntp_pair.proofs.laws.bad_end_is_unspelled.Goals as goal

pub returns : goal.returns
returns c = bad-unspelled
