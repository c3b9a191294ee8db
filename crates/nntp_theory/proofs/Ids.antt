pub mod InventedIds
pub mod NumbersOfInventedIds
pub mod OnePlaceOfAnId
pub mod SizeOfASession
pub mod SmallGivenSpool
