pub mod Calls
pub mod LogParts
