pub mod BackLemmas
pub mod FormLemmas
pub mod StepLemmas
