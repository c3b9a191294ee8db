pub mod PermittedPairs
mod ListedNumbers
mod ListedGroups
mod AskedCounts
mod AnswersInFacts
mod VerifiedPairs
