pub mod PrintedLemmas
pub mod ResultLemmas
pub mod JobTextLemmas
pub mod MadeLemmas
