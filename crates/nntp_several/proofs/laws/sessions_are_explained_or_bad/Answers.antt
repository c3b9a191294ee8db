use Rattle.nntp_several.proofs.ExplainedSessions.{explained_or_bad_of_all, explained_not_bad_of_all, bad_once_of_all}
use Rattle.nntp_several.proofs.laws.sessions_are_explained_or_bad.Goals as goal

pub returns : goal.returns
returns c = record { explained_or_bad = explained_or_bad_of_all; never_both = λ profile S sessions j k x. explained_not_bad_of_all profile S sessions j k x.1; one_bad = bad_once_of_all }
