pub mod Arities
pub mod FewRows
pub mod Jsons
pub mod Digits
pub mod Sofar
pub mod Tables
