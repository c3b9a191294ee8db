use Rattle.nntp_verdict.proofs.VerdictLaws.{one_verdict_of_all, yes_if_explained_of_all, one_session_verdict}
use Rattle.nntp_verdict.proofs.laws.sessions.sessions_have_one_verdict.Goals as goal

pub returns : goal.returns
returns c = record { one = one_verdict_of_all; yes = yes_if_explained_of_all; alone = one_session_verdict }
