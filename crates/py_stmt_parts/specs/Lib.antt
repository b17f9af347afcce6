pub mod Managing
pub mod Parts
pub mod Generics
pub mod Classes
pub mod Futures
