pub mod Asked
pub mod Listed
pub mod Refused
pub mod Shown
pub mod Texts
