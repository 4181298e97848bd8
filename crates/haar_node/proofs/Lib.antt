pub mod StoredNumberLemmas
pub mod LeafLemmas
pub mod WeightedSumLemmas
