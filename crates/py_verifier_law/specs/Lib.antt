pub mod Flawless
pub mod Formed
