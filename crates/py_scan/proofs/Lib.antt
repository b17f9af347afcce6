mod Classes
pub mod Generic
pub mod Induction
pub mod InductionStatements
pub mod Names
pub mod Pairs
mod Samples
pub mod Shown
pub mod OpenScopeLemmas
