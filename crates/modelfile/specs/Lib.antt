pub mod Faults
pub mod Files
pub mod FirstFault
pub mod Plans
pub mod Walks
pub mod Fills
pub mod Loads
