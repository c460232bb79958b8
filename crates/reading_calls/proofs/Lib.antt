pub mod AttachLemmas
pub mod FilterLemmas
pub mod InspectLemmas
pub mod ListedLemmas
pub mod LogsLemmas
pub mod TakeLemmas
pub mod VolumesToldLemmas
