pub mod Lives
pub mod Running
pub mod Pausing
pub mod Standing
pub mod Looping
