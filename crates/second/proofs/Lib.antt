pub mod Listing
pub mod Counting
pub mod Bits
pub mod Totals
