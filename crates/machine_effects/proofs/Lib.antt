pub mod DestroyLemmas
pub mod DueLemmas
pub mod IdLemmas
