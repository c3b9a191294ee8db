mod SessionAnswers
mod ToldAnswers
mod ReadSessions
mod SaidLines
mod ContradictionReasons
mod LowMarks
mod ClosingAnswers
