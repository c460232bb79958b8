pub mod RingLemmas
pub mod CodeLemmas
