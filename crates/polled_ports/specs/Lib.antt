pub mod PollSource
pub mod PollSink
pub mod PollDoor
pub mod Memory
pub mod Adapters
