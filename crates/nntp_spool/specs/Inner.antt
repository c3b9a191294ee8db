pub mod Sessions
pub mod ListedNumbers
pub mod ListedGroups
pub mod ListedOverviews
pub mod AskedCounts
