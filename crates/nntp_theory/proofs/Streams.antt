pub mod ClassAtTheEnd
pub mod ExplainedOrBad
pub mod ExplainedPairs
pub mod OneClass
pub mod OneOutcome
pub mod PairedStreams
