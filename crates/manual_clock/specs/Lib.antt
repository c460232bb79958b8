pub mod Moves
pub mod Shared
