-- A journal's fields as the journal that they mean (own).
use Rattle.std.specs.Prelude.{◌≡◌, ◌≤◌, ◌+◌, vec_len, vec_capacity, length}
use Rattle.journal_lines.specs.KeptJournal.{KeptJournal, ends_of}
use Rattle.journal_lines.specs.Stored.{stored_history}
use Rattle.journal_lines.specs.declared.journal.Journal.TheInside.{Inside}

-- Its entries and places.
abbrev pub journal_inside : Inside → KeptJournal
journal_inside j = record {
  entries = j.items.items;
  since = j.since;
  greatest = j.greatest;
  room = vec_capacity j.items;
}

-- The counts of ends and steps are at hand, and each end has a place.
abbrev pub IsSoundJournal : Inside → Type 0
IsSoundJournal j =
    (j.ends ≡ ends_of j.items.items) × (j.steps ≡ length (stored_history j.items.items j.since))
    × (vec_len j.items + j.ends ≤ vec_capacity j.items)
