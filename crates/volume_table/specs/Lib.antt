pub mod Volumes
pub mod VolumesInside
