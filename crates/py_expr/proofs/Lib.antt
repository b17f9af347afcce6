pub mod Locations
pub mod Runs
