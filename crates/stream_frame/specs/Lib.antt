pub mod Frames
pub mod Demuxing
pub mod Steps
pub mod Walks
pub mod Laws
