pub mod Whys
pub mod Opening
pub mod Serving
pub mod Starting
pub mod Program
