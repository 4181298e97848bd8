pub mod Settings
pub mod Values
pub mod Requests
pub mod Parsing
