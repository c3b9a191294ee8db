use Rattle.nntp_verdict.proofs.BadLemmas.{one-told, told-stays}
use Rattle.nntp_verdict.proofs.laws.one_is_told_bad.Goals as goal

pub returns : goal.returns
returns c = record { one = one-told; stays = told-stays }
