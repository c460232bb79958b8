pub mod Reading
pub mod Options
pub mod Heads
pub mod Telling
