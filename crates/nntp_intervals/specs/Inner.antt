pub mod Intervals
pub mod Neighbours
pub mod Outside
