pub mod CoresFound
pub mod HeldAnswers
pub mod NotedExchange
pub mod NotedSessions
pub mod RefusedAnswers
pub mod ToldAnswers
