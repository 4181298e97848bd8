pub mod LimitLemmas
pub mod ReadLemmas
pub mod CanonicalLemmas
pub mod PlanLemmas
pub mod KindLemmas
pub mod FirstFaultLemmas
