use Rattle.nntp_several.proofs.SessionsRead.{first_bad_of_all, good_exactly_of_all}
use Rattle.nntp_several.proofs.laws.first_bad_session_is_the_outcome.Goals as goal

pub returns : goal.returns
returns c = record { first = first_bad_of_all; good = good_exactly_of_all }
