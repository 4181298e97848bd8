pub mod FutureLemmas
pub mod NamingLemmas
pub mod PlaceLemmas
pub mod TaskLemmas
