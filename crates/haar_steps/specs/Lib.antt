pub mod Effects
pub mod Starts
pub mod Steps
pub mod Laws
pub mod Forms
