mod LookUps
mod LastUpTo
mod Joins
mod Meets
mod Outside
