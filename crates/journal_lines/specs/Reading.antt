-- How a line's value is read, step by step (own: no public clause says it; what is read is compared with the line).
pub mod Parts
pub mod Lists
pub mod Calls
pub mod Entries
pub mod Headers
