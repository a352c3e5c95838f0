pub mod Tables
pub mod Decisions
pub mod Claims
pub mod Cases
