pub mod Opening
pub mod Running
pub mod Listening
pub mod Drilling
pub mod Program
pub mod Laws
