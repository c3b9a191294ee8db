pub mod Article
pub mod Session
pub mod Inner
