pub mod ArticleSaid
pub mod ArticleView
pub mod Articles
pub mod PartView
pub mod Readers
