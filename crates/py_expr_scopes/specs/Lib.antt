pub mod Clauses
pub mod Comprehensions
pub mod Functions
