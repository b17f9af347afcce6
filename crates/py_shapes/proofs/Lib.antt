pub mod Checks
pub mod Repeated
mod Rows
pub mod Steps
