pub mod Listing
pub mod Reducing
