pub mod Sessions
pub mod VerifyingView
pub mod Outcome
pub mod Reading
pub mod Paired
pub mod Passing
