pub mod WorstLemmas
pub mod ListLemmas
