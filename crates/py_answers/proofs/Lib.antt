pub mod ScriptTextLemmas
pub mod Cases
pub mod Events
pub mod Found
