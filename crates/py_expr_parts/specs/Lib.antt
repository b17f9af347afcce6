pub mod Turns
pub mod Dicts
pub mod Targets
pub mod Calls
