pub mod ReadingLemmas
pub mod Leftovers
pub mod ListsOf
pub mod Sofar
