pub mod Steps
pub mod Parts
pub mod Goes
pub mod Written
