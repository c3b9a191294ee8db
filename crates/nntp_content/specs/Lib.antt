pub mod Ascending
pub mod Content
pub mod Numbers
pub mod Counts
pub mod Inner
