pub mod Parts
pub mod Control
pub mod Required
pub mod Fields
