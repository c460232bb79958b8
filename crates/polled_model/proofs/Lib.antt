pub mod AnswerLemmas
pub mod StageLemmas
pub mod WaitLemmas
pub mod StreamLemmas
pub mod EndLemmas
pub mod ProgressLemmas
pub mod InputLemmas
pub mod TakeoverLemmas
