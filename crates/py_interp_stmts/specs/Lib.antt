pub mod Over
pub mod Catching
pub mod Leaving
pub mod Prompted
pub mod Opened
