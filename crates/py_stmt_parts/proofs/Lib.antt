pub mod Steps
pub mod WithItemLemmas
pub mod LastReturn
pub mod FutureImportLemmas
pub mod DefaultLemmas
pub mod ClassParts
