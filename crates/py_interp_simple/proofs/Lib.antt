pub mod Endings
pub mod DecoratorLemmas
pub mod AnnotationLemmas
pub mod ClassCalls
pub mod FunctionDefinitionLemmas
pub mod DropLemmas
