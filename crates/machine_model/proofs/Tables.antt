pub mod NumberLemmas
pub mod ProcessLemmas
