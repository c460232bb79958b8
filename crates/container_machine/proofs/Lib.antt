pub mod AttachedLemmas
pub mod CommitLemmas
pub mod DueFoundLemmas
pub mod DueMakeLemmas
pub mod FoundLemmas
pub mod ListingLemmas
pub mod SoundLemmas
