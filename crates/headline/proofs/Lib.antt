pub mod OwedLemmas
pub mod RunLemmas
