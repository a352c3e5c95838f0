pub mod Facts
pub mod Sun
pub mod Sides
