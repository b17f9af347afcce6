pub mod Compound
pub mod Definitions
pub mod Making
pub mod Pieces
pub mod Simple
pub mod Stmts
pub mod TypeParams
