pub mod Offsets
pub mod WidthGrowthLemmas
pub mod WidthRoundLemmas
pub mod ReadBackLemmas
pub mod UnitWriteLemmas
pub mod SameUnits
pub mod LeastWidthLemmas
pub mod AssemblyLemmas
