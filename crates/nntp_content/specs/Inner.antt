pub mod Codes
pub mod ArticleLines
pub mod Content
pub mod ArticlesView
pub mod ContentView
pub mod Numbers
