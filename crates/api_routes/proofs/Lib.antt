mod WithinLemmas
mod RiseLemmas
mod SignalLemmas
mod MountLemmas
mod CreateLemmas
mod UpdateLemmas
mod BodyLemmas
mod FilterLemmas
pub mod CutLemmas
pub mod TextLemmas
pub mod NumeralLemmas
pub mod VersionLemmas
pub mod StepLemmas
pub mod QueryLemmas
pub mod SoundLemmas
pub mod ClassLemmas
pub mod ParameterLemmas
pub mod CallLemmas
pub mod StandardFacts
pub mod StatusLemmas
