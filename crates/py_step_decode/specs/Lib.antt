pub mod Instructions
pub mod Short
