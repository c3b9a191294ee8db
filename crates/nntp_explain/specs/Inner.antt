pub mod Explaining
pub mod ExplainingView
