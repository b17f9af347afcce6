pub mod Entering
pub mod Parts
pub mod Placed
