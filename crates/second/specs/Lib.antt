pub mod Lists
pub mod Held
pub mod Totals
