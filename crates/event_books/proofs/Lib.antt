pub mod BookPartLemmas
pub mod BookExampleLemmas
pub mod WrittenPartLemmas
