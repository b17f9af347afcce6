pub mod EventLemmas
pub mod Events
pub mod CellPathLemmas
pub mod CaptureLemmas
pub mod ChainSamples
