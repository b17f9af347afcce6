pub mod LocationLemmas
pub mod Parts
pub mod FunctionParts
pub mod TypeParameterFunctionLemmas
pub mod ClassCallLemmas
pub mod Lasts
