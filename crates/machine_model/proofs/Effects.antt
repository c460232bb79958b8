pub mod CancelLemmas
pub mod DestroyLemmas
pub mod EndMainLemmas
pub mod HaltLemmas
pub mod LaunchLemmas
pub mod MeetLemmas
