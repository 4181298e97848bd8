pub mod Planning
pub mod KeptPlans
pub mod PlannedApps
pub mod AppLaws
pub mod AppListLaws
