pub mod Places
pub mod Joins
pub mod Laid
pub mod Coding
pub mod Widths
pub mod Standing
pub mod Fronts
pub mod Laying
