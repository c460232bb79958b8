pub mod List
pub mod Take
