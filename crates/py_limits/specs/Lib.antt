pub mod Limits
pub mod Nesting
pub mod Size
