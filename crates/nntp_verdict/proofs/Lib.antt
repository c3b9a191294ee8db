mod ShownPlaces
pub mod VerdictLaws
pub mod JudgeLemmas
mod FedLemmas
pub mod CheckerLemmas
mod BadLemmas
