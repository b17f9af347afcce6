pub mod Firsts
pub mod Walruses
pub mod Lifted
pub mod Names
pub mod Allowed
pub mod Scans
pub mod Samples
