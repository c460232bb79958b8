pub mod ListenLemmas
pub mod SessionLemmas
pub mod DrillLemmas
pub mod StatusLemmas
pub mod StandardFacts
