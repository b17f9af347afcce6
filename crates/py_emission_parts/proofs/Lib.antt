pub mod EmissionLawLemmas
pub mod GrowthLemmas
pub mod TableGrowthLemmas
pub mod PassedNumberLemmas
pub mod ConstantLawLemmas
pub mod RunEquationLemmas
