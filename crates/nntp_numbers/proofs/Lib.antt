pub mod AsksSettled
mod ConflictsOfNumbers
mod GapsOfAPart
pub mod HullOfMarks
pub mod Implied
pub mod MoreAsks
mod NumberSets
pub mod SaidInARange
pub mod SaidOfAsks
mod Tallies
pub mod UnseenNumbers
