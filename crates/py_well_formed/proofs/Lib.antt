mod Samples
mod StepLemmas
mod FormLemmas
