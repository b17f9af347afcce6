pub mod Distinct
pub mod Loads
