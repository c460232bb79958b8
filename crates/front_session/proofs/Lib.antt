mod ProgressLemmas
mod WayLemmas
mod BytesLemmas
mod LookLemmas
mod HandLemmas
mod ReadLemmas
mod LawLemmas
mod StandardFacts
