pub mod Func
pub mod Node
pub mod NodeExamples
pub mod Combinations
