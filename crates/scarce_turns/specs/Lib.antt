pub mod Scarcity
pub mod Refusing
