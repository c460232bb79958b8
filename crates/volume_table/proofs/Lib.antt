pub mod OrderLemmas
pub mod ReferenceLemmas
