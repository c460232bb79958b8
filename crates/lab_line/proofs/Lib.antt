mod LineLemmas
mod StartLemmas
