pub mod Among
pub mod Dues
pub mod Runs
pub mod Words
