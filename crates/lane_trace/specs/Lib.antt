pub mod Traces
pub mod StoredEvents
pub mod Examples
pub mod Records
