pub mod Conflicts
pub mod CoresGoOn
mod Examples
pub mod Given
pub mod GivenNumbers
pub mod Ids
pub mod Maps
pub mod Members
pub mod OkResults
pub mod PointsByRank
pub mod PointsOfConflict
pub mod Reading
pub mod Session
pub mod Streams
pub mod Together
