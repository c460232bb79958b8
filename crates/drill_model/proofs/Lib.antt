pub mod SpellingLemmas
pub mod AskedLemmas
pub mod ClassLemmas
pub mod UnrefusedLemmas
