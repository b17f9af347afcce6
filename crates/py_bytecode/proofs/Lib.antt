pub mod Tables
pub mod View
pub mod Heads
mod Samples
mod InstructionSamples
pub mod Decided
pub mod Same
pub mod Entered
mod ConstantLaws
pub mod Effects
