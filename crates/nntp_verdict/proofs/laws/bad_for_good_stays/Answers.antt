use Rattle.nntp_verdict.proofs.BadLemmas.{bad-stays}
use Rattle.nntp_verdict.proofs.laws.bad_for_good_stays.Goals as goal

pub returns : goal.returns
returns c = bad-stays
