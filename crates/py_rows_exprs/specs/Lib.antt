pub mod Atoms
pub mod Constants
pub mod Displays
pub mod Exprs
pub mod Making
pub mod Operations
pub mod Pieces
