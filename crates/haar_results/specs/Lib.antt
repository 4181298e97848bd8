pub mod Results
pub mod RightResults
pub mod Texts
pub mod SmallResults
