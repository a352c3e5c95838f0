pub mod Steps
pub mod Reading
pub mod Tables
pub mod Marks
pub mod Refusals
pub mod Claims
