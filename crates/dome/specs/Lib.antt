pub mod Dome
