pub mod ExecRefusals
pub mod Feed
