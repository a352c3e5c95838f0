pub mod Counts
pub mod Spelling
pub mod Operators
pub mod Spreads
pub mod Stacks
pub mod Formed
pub mod Once
