pub mod Loads
pub mod Examples
