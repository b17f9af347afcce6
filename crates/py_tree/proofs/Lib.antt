pub mod View
pub mod Defaults
