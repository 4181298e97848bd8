pub mod Shown
pub mod Listed
pub mod Asks
pub mod States
