pub mod PortLemmas
mod WriterLemmas
