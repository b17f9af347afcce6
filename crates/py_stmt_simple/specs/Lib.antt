pub mod Assigning
pub mod Managing
pub mod Parts
pub mod Generics
pub mod Functions
pub mod Classes
pub mod Futures
