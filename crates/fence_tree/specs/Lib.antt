pub mod Trees
pub mod Rows
pub mod Verdicts
pub mod Turns
