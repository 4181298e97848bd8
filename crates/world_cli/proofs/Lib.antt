pub mod AnswerLemmas
pub mod PositionLemmas
pub mod ResultLemmas
