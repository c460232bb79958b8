pub mod Listening
pub mod Reading
pub mod Refusing
pub mod Rebooting
pub mod Program
pub mod Laws
