pub mod Filter
pub mod Fold
pub mod Ring
pub mod RingInside
