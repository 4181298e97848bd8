pub mod Tolds
pub mod LaneTasks
