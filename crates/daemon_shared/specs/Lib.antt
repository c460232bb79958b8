pub mod Sharing
pub mod Running
pub mod Sessions
pub mod Threads
