pub mod KeepLemmas
pub mod HeadLemmas
pub mod BodyLemmas
pub mod ChunkLemmas
pub mod TakeLemmas
pub mod PushLemmas
pub mod LawLemmas
