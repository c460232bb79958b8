pub mod ChunkLemmas
pub mod HeaderLemmas
pub mod AddLemmas
pub mod LawLemmas
