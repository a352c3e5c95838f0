pub mod Appends
pub mod Writings
pub mod Saves
pub mod Savings
pub mod Trips
