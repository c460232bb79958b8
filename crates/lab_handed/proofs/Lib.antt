pub mod HeadLemmas
pub mod SpellLemmas
mod StandardFacts
