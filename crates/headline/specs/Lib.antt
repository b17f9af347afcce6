pub mod Headline
pub mod Program
pub mod Steps
