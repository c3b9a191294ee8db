pub mod Machine
pub mod Spool
pub mod Explains
pub mod Misfit
pub mod Limit
