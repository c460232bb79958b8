pub mod Pieces
pub mod Standing
pub mod Taking
pub mod Begun
pub mod Reading
pub mod Pushing
pub mod Laws
