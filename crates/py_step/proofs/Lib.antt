mod Alike
pub mod Told
