pub mod ExplainedSessions
pub mod OneOutcomeOfAll
pub mod SessionsRead
pub mod WaysToOutcome
pub mod ConflictsOfSessions
mod AnyOrder
pub mod SessionsVerified
pub mod PassingSessions
pub mod BadForGood
