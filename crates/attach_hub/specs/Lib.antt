pub mod Connection
pub mod Polling
pub mod Waiting
pub mod Streams
pub mod Following
pub mod Pumping
pub mod Sides
