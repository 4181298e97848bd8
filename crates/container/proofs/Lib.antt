pub mod ChangeLemmas
pub mod LookUpLemmas
pub mod MapLemmas
pub mod RightLemmas
pub mod VersionLemmas
pub mod WaitLemmas
