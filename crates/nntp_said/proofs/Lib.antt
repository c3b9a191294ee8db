pub mod CurrentArticle
pub mod FactsHold
pub mod FiniteMapsDecided
pub mod PermittingDecided
pub mod Rows
