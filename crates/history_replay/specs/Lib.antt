pub mod Cutting
pub mod Counting
pub mod Standing
pub mod Checking
pub mod Legal
pub mod Upgrading
