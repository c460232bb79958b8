pub mod Effects
pub mod Values
pub mod Views
