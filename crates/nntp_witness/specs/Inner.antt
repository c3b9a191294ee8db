pub mod Witness
pub mod Making
