pub mod Spelled
pub mod Sent
pub mod Classes
pub mod Table
pub mod Asked
pub mod SentCalls
