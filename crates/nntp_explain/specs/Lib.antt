pub mod Standing
pub mod Reasons
pub mod Says
pub mod Explaining
pub mod Inner
