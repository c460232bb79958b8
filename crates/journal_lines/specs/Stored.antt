-- The history that a journal stores (own: per entry its due steps, and then its call).
use Rattle.std.specs.Prelude.{ℕ, List, [], ◌∷◌, ◌++◌, replicate}
use Rattle.std.specs.List.{flat_map}
use Rattle.engine_text.specs.declared.entry.Entry.{Entry}
use Rattle.engine_text.specs.declared.step.Step.{Step}

-- So many due steps.
abbrev pub due_steps : ℕ → List Step
due_steps n = replicate n Step.Due

-- The steps that an entry stands for.
abbrev pub entry_steps : Entry → List Step
entry_steps e = due_steps e.dues ++ Step.Call e.conn e.moment e.call ∷ []

-- The history of these entries, with so many due steps since the last.
abbrev pub stored_history : List Entry → ℕ → List Step
stored_history entries since = flat_map entry_steps entries ++ due_steps since
