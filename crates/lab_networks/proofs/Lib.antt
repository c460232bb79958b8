mod StandardFacts
mod TextLemmas
