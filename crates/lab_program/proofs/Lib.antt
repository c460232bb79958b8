mod DoorLemmas
mod ServeLemmas
