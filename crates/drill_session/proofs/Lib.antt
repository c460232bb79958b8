pub mod DrillLemmas
pub mod JournalLemmas
pub mod StandardFacts
