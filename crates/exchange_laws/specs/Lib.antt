pub mod Kinds
pub mod Turns
pub mod Answers
pub mod Laws
pub mod Fixed
