pub mod Asking
pub mod Known
pub mod Shown
pub mod Steps
pub mod Sharing
