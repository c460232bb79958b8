pub mod TurnLemmas
pub mod ServeLemmas
pub mod RootLemmas
pub mod RunLemmas
pub mod EndLemmas
pub mod SessionLemmas
pub mod PairLemmas
