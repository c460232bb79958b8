pub mod TurnLemmas
pub mod ByteLemmas
pub mod AnswerLemmas
pub mod OpenLemmas
pub mod TellLemmas
