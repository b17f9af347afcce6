pub mod Turns
pub mod Quiet
pub mod Scans
pub mod Faultless
