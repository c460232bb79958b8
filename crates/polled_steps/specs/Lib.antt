pub mod Room
pub mod Bytes
pub mod Answers
pub mod Turning
pub mod Opening
pub mod Telling
pub mod Sending
