pub mod LackingLemmas
