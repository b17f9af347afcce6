pub mod Handed
pub mod Runs
pub mod Traces
pub mod Verdicts
