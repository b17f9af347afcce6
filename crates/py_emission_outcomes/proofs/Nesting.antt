mod Nests
mod NestingParts
mod NestingTests
mod NestingScopes
mod NestingExprs
mod NestingControl
mod NestingImports
mod NestingDefs
mod NestingStmts
pub mod NestingMods
