pub mod Numbers
pub mod Readings
pub mod Decisions
pub mod Operations
pub mod Units
