pub mod Keywords
pub mod Options
pub mod Parts
pub mod Starred
