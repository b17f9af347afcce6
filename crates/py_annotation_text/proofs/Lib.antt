mod Lengths
mod Pairs
mod Parameters
mod Samples
mod Separated
