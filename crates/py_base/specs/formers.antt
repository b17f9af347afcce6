-- Files for containers that recursive types lead through.
pub mod list
