pub mod Classes
pub mod Pairing
pub mod Inner
