pub mod Compiled
pub mod Calls
