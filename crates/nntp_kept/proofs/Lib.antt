pub mod Base
pub mod Keeping
