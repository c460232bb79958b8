pub mod AnswerLemmas
pub mod CreateLemmas
pub mod KillLemmas
pub mod MakeLemmas
pub mod ReadyLemmas
pub mod RunEndLemmas
pub mod VolumeLemmas
