pub mod Progress
pub mod Places
pub mod Stages
pub mod Steps
pub mod Takeovers
pub mod Polls
