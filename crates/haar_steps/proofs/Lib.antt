pub mod CountLemmas
pub mod OperationLemmas
pub mod StepLemmas
pub mod HomeLemmas
pub mod AllowedLemmas
pub mod AppLemmas
