pub mod Address
pub mod Opening
pub mod Statuses
pub mod Telling
