pub mod Moments
pub mod Removals
pub mod Tickets
