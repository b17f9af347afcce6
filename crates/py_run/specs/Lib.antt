pub mod Laws
pub mod Prepared
pub mod Reading
pub mod Runs
pub mod Statuses
pub mod Words
