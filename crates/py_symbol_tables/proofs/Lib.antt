pub mod Firsts
pub mod Preorder
pub mod ScopeOrderLemmas
pub mod EnteredScopeLemmas
