pub mod Written
mod SplitLines
mod RepeatedSteps
mod LineFields
mod NumbersRead
mod TextRead
mod NumbersInOrder
mod ItemsRead
mod ItemsOfText
pub mod WholeSpools
mod BuiltContent
mod NumberFaults
