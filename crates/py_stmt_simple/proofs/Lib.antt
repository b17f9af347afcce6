pub mod AssignmentTargetLemmas
pub mod EmissionGroupLemmas
pub mod WithEntryLemmas
pub mod AnnotationLemmas
pub mod PromptLemmas
pub mod TypeParameterLemmas
