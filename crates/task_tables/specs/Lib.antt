pub mod Examples
pub mod Futures
pub mod Giving
pub mod Places
pub mod Tasks
