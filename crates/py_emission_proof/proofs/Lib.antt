pub mod Additions
pub mod Sizes
pub mod Trees
