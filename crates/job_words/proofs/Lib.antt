pub mod PositionLemmas
pub mod LineLemmas
pub mod WordLemmas
pub mod NameLemmas
