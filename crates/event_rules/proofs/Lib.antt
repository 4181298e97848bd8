pub mod LoadLemmas
pub mod LoopLemmas
pub mod TakingLemmas
pub mod DueLemmas
pub mod PassLemmas
