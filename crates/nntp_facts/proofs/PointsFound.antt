-- The points about which answers conflict, as code finds them.
pub mod Statements
pub mod KindsOfPoints
pub mod NumbersBeside
pub mod ArticlesBeside
pub mod FieldsBeside
pub mod IdsBeside
pub mod PointsChained
