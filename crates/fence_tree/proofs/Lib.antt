pub mod RowLemmas
pub mod TreeLemmas
pub mod TurnLemmas
pub mod AttemptLemmas
pub mod TurnEndLemmas
pub mod StageLemmas
pub mod AnswerLemmas
