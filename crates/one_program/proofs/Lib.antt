pub mod ReadLemmas
pub mod TextLemmas
pub mod ListenLemmas
pub mod RebootLemmas
pub mod StatusLemmas
