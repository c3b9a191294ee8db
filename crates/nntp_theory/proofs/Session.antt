pub mod FittingFacts
pub mod GroupOfAnAnswer
pub mod LaterPrompts
pub mod NumbersOfShownGroups
pub mod NumbersWithinLimit
pub mod OneMoreAnswer
pub mod PairsGoOn
