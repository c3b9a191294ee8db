pub mod FirstBadOfAReading
pub mod JudgedAnswers
pub mod JudgedSession
pub mod OneReading
