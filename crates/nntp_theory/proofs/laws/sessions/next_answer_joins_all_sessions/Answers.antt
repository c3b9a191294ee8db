use Rattle.nntp_theory.proofs.Given.SessionsGoOn.{permitted_more_behind, small_behind}
use Rattle.nntp_theory.proofs.laws.sessions.next_answer_joins_all_sessions.Goals as goal

pub returns : goal.returns
returns c = record { answer = permitted_more_behind; size = small_behind }
