pub mod Sessions
pub mod Verifying
pub mod Inner
