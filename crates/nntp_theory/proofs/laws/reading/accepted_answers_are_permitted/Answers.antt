use Rattle.nntp_theory.proofs.Reading.JudgedSession.{permitted_in_session, size_in_session}
use Rattle.nntp_theory.proofs.laws.reading.accepted_answers_are_permitted.Goals as goal

pub returns : goal.returns
returns c = record { permitted = permitted_in_session; size = size_in_session }
