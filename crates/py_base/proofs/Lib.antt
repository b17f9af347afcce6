pub mod Mangled
pub mod Numbers
pub mod Booleans
