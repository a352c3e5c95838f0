pub mod Space
pub mod Holds
pub mod Labelling
pub mod Measuring
pub mod Giving
pub mod Risings
pub mod Trips
