-- The history that a daemon's journal stores, and its entries (own).
use Rattle.std.specs.Prelude.{List}
use Rattle.engine_text.specs.declared.entry.Entry.{Entry}
use Rattle.engine_text.specs.declared.step.Step.{Step}
use Rattle.journal_lines.specs.KeptJournal.{KeptJournal}
use Rattle.journal_lines.specs.Stored.{stored_history}
use Rattle.machine_model.specs.History.{Charter}
use Rattle.journal_lines.specs.Entries.{history_entries}

-- the steps that a journal stores: of each entry the due steps before it and its call, and the due steps since
unfoldable pub history_of : KeptJournal → List Step
history_of j = stored_history j.entries j.since

-- the entries of a history: each call with its reply
unfoldable pub told_entries : Charter → List Step → List Entry
told_entries ch h = history_entries ch h
