pub mod OptionLemmas
pub mod BodyLemmas
pub mod RequestLemmas
pub mod WordLemmas
pub mod CodeLemmas
pub mod TimeLemmas
pub mod TellingLemmas
