pub mod Shapes
pub mod Literal
pub mod Mangle
pub mod formers
pub mod Messages
