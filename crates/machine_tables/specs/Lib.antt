pub mod Held
pub mod LeastDue
pub mod Places
pub mod ProcessesInside
pub mod Rising
pub mod Settled
pub mod Values
pub mod Views
