pub mod Asks
pub mod Facts
pub mod Inner
