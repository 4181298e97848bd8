pub mod BinLemmas
pub mod LaneLemmas
pub mod ExampleLemmas
