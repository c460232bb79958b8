pub mod Steps
pub mod Claims
pub mod Views
pub mod Rule
pub mod Plays
pub mod Turns
pub mod Example
