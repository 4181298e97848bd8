pub mod Lists
pub mod Drops
pub mod SmallLists
pub mod SmallRun
