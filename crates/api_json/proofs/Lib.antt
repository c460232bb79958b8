mod ListLemmas
mod WrittenLemmas
mod DecimalLemmas
mod NumberLemmas
mod HealthLemmas
pub mod EventLemmas
mod StandardFacts
