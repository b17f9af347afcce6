pub mod Plain
pub mod Quote
