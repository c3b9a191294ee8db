pub mod Sessions
pub mod Verifying
pub mod Outcome
pub mod Reading
pub mod Conflict
pub mod Told
pub mod Inner
