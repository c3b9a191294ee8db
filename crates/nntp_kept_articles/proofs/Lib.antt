pub mod ArticleReaders
pub mod Base
pub mod KeptArticles
pub mod KeptIds
pub mod MadeLists
pub mod SaidOfArticles
pub mod TextKeys
