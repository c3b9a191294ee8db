pub mod Between
pub mod NumberSets
pub mod Part
pub mod PartOf
pub mod PartView
pub mod Summary
pub mod SummaryView
pub mod Unseen
