pub mod Text
pub mod Plain
pub mod Utf8
pub mod Pairs
pub mod Sound
pub mod Laws
