pub mod AsksDecided
pub mod CountOfGivenNumbers
pub mod FirstFreeNumber
pub mod GivenNumbersMeet
pub mod JoinedDemands
pub mod MetNumbersStand
pub mod OneMoreNumber
