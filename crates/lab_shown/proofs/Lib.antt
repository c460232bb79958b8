mod ListLemmas
mod RefusedLemmas
mod SearchLemmas
mod ShownLemmas
mod StandardFacts
