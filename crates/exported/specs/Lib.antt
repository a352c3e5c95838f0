pub mod Outcomes
pub mod Jobs
