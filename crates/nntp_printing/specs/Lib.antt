pub mod Printing
pub mod BadAnswer
pub mod Title
