pub mod OpenBlocks
pub mod OpenClauses
pub mod ComprehensionScopes
pub mod Signatures
pub mod Scopes
