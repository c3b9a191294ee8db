pub mod Watched
pub mod Writing
pub mod Limited
pub mod Text
pub mod Fields
pub mod Reading
pub mod Faults
pub mod Inner
