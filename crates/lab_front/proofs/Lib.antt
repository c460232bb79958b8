mod PathLemmas
mod QueryLemmas
mod StandardFacts
