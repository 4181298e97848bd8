pub mod CombinationLemmas
pub mod FormLemmas
