pub mod UnitLemmas
pub mod TotalLemmas
pub mod RightLemmas
pub mod StartLemmas
