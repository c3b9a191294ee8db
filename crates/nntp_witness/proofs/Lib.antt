mod InventedIds
mod MoreMade
mod BuilderCalls
mod FaultsNone
mod ArticleSteps
mod WholeWitness
mod GroupNumbers
mod GroupsInOrder
pub mod Aims
mod Faults
mod NumberSteps
mod GroupSteps
