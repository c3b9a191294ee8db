pub mod Asks
pub mod Facts
pub mod FactView
pub mod Places
