pub mod BinState
pub mod LookUps
pub mod Names
pub mod Refusals
pub mod RightBins
pub mod VersionEntries
pub mod WaitLog
