pub mod NotedAsJudged
pub mod NotedContradictions
pub mod Standings
