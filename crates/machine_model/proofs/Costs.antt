pub mod AnswerLemmas
pub mod CallLemmas
pub mod CostLemmas
pub mod EffectLemmas
pub mod ExecEndLemmas
pub mod StatusLemmas
