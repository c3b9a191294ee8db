use Rattle.nntp_several.proofs.SessionsRead.{some_reading_of_all, one_reading_of_all}
use Rattle.nntp_several.proofs.laws.sessions_have_one_reading.Goals as goal

pub returns : goal.returns
returns c = record { some = some_reading_of_all; one = one_reading_of_all }
