pub mod ArticleLemmas
pub mod SessionLemmas
pub mod ShownMaps
