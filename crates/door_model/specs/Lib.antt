pub mod Worsts
pub mod Connections
