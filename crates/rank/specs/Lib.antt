pub mod Examples
pub mod Runs
pub mod Shares
pub mod Walks
