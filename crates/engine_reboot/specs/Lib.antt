pub mod Planning
pub mod Following
pub mod Reopening
pub mod Replaying
pub mod Rebooting
