pub mod FactsJoin
pub mod FactsOfASpoolStand
pub mod FewEnough
pub mod ListedOverviews
pub mod TwoListsOfFacts
pub mod WellFormed
