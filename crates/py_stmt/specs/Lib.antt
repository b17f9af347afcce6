pub mod Managing
pub mod Parts
pub mod Functions
pub mod Classes
pub mod Interactive
