pub mod StandardFacts
pub mod MakingLemmas
pub mod AnswerLemmas
pub mod TallyLemmas
pub mod LineLemmas
