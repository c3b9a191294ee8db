pub mod PairLemmas
pub mod NextLemmas
pub mod PassedLemmas
pub mod PairingLemmas
pub mod SpelledLemmas
pub mod FeedLemmas
pub mod FedLaws
pub mod NextDecided
