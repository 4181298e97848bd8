pub mod ToldLemmas
pub mod GivenLemmas
