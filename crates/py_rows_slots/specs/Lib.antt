pub mod Lists
pub mod Nodes
pub mod Slots
pub mod Taking
