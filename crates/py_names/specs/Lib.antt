pub mod Places
pub mod Report
pub mod Trees
pub mod Lines
pub mod Samples
pub mod FunctionSamples
pub mod ClassSamples
