pub mod Execs
pub mod ExecsInside
