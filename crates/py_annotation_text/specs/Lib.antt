pub mod Annotation
pub mod Constants
pub mod FStrings
pub mod Lists
pub mod Signs
