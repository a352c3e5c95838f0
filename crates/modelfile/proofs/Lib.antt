pub mod Rise
pub mod Judging
pub mod Walking
pub mod Filling
pub mod Short
pub mod Denoting
pub mod Outcome
pub mod Meaning
