pub mod CodeLemmas
pub mod LimitLemmas
pub mod PaceLemmas
pub mod ProgramCodeLemmas
