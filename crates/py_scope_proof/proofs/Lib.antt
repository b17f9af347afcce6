pub mod NodeScopes
pub mod CellBinding
pub mod CellLoads
pub mod RefusedNames
