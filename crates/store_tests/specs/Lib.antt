pub mod Store
pub mod StoreLaws
pub mod Turns
