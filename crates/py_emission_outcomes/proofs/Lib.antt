pub mod Faults
pub mod Nesting
pub mod Capacity
