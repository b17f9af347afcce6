pub mod Widths
pub mod Written
pub mod Widened
pub mod Assembled
