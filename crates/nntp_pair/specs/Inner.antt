pub mod Pairing
pub mod Sides
pub mod Step
pub mod Feeding
pub mod Searching
