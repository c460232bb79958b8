pub mod Forced
pub mod Left
pub mod Naming
pub mod Pruning
pub mod Queries
pub mod Rows
pub mod Texts
