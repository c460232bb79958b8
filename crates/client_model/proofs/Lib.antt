pub mod LineFacts
pub mod RequestFacts
pub mod RunFacts
pub mod HealthFacts
