pub mod Lists
pub mod Totals
pub mod Keeps
pub mod Splits
pub mod Joins
pub mod Turning
mod Opens
