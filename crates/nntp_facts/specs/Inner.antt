pub mod FactsView
pub mod Noted
pub mod PointView
pub mod Points
pub mod StatementView
pub mod Told
