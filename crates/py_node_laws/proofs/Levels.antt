pub mod LevelExprs
pub mod LevelParts
pub mod LevelStmts
pub mod LevelTrees
pub mod Alike
pub mod LevelSamples
