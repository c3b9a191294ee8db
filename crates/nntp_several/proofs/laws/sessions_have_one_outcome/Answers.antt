use Rattle.nntp_several.proofs.OneOutcomeOfAll.{some_outcome_of_all, one_outcome_of_all, yes_explained_of_all}
use Rattle.nntp_several.proofs.laws.sessions_have_one_outcome.Goals as goal

pub returns : goal.returns
returns c = record { some = some_outcome_of_all; one = one_outcome_of_all; yes = yes_explained_of_all }
