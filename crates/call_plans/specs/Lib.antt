pub mod Calls
pub mod Making
pub mod Needs
pub mod Parts
pub mod Plans
pub mod Prepared
pub mod RunEnds
pub mod Runs
