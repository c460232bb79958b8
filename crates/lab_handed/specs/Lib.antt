pub mod Early
pub mod Keys
pub mod Since
pub mod Exact
pub mod Changes
pub mod Laws
