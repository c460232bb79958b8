pub mod Source
pub mod Requests
pub mod Answers
pub mod Report
