pub mod PlannedJobs
pub mod Printed
pub mod RightValues
pub mod RightCells
pub mod Sides
pub mod JobUnits
pub mod RightDecisions
pub mod SmallJobs
