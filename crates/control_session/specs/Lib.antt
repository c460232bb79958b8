pub mod Answering
pub mod Controls
