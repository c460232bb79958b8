mod AskingLemmas
mod NumberLemmas
