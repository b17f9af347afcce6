pub mod Places
pub mod LoopTurnLemmas
pub mod Behind
pub mod WithItemLemmas
pub mod FutureImportLemmas
pub mod PromptLemmas
pub mod Lasts
