pub mod Flow
pub mod Walks
pub mod Flat
pub mod Known
pub mod Shown
pub mod Sound
pub mod Highest
