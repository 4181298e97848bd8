pub mod Assigning
pub mod CellState
pub mod PendingState
pub mod StoredCallbacks
