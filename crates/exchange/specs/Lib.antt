pub mod Texts
pub mod Listings
pub mod Takes
pub mod Settles
