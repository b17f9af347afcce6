pub mod Held
pub mod State
pub mod Does
pub mod Leaving
pub mod Short
pub mod Running
