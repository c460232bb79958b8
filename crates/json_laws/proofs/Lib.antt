pub mod RoundTrip
pub mod NoFloat
pub mod Utf8
pub mod Pairs
pub mod Text
pub mod Sound
pub mod Lines
