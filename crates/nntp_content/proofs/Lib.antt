pub mod ShownMaps
pub mod ShownNumbers
pub mod MapEntries
mod NumberIds
mod GatheredEntries
mod SearchedEntries
