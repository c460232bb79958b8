-- What asking for a part of the journal tells (own).
use Rattle.std.specs.Prelude.{◌≡◌, ℕ, ◌+◌, ◌≤◌, List, [], ◌++◌, drop, length, take}
use Rattle.std.specs.List.{flat_map}
use Rattle.engine_text.specs.declared.step.Step.{Step}
use Rattle.machine_model.specs.History.{Charter}
use Rattle.journal_lines.specs.JournalLines.{lines_of}
use Rattle.session_model.specs.Pass.{PassView}
use Rattle.session_model.specs.Turning.{Turns}
use Rattle.session_model.specs.declared.turned.Part.{Part}
use Rattle.session_model.specs.declared.turned.Part.TheVariants.{More, UpToDate, NoMemory}

-- the lines of a history's journal from a number up to but not including another: line 0 is its header
abbrev pub told_lines : Charter → List Step → ℕ → ℕ → List ℕ
told_lines ch h from to = flat_map (λ l. l) (drop from (take to (lines_of ch h)))

-- what was told of a history's journal, and what was appended: the line of that number, or nothing
abbrev pub JournalSays : Charter → List Step → ℕ → Part → List ℕ → List ℕ → Type 0
JournalSays ch h number (More next) old new =
    (next ≡ number + 1) × (next ≤ length (lines_of ch h)) × (new ≡ old ++ told_lines ch h number next)
JournalSays ch h number UpToDate old new = (length (lines_of ch h) ≤ number) × (new ≡ old)
JournalSays ch h number NoMemory old new = new ≡ old
JournalSays ch h number part old new = ⊥

-- a part of the journal from a number on was asked for, and appended: the history was looked at, and no step was made
pub record JournalTurn (k number : ℕ) (part : Part) (old new : List ℕ) (p q : PassView) : Type 0 where
  pub turns : Turns k p q
  pub still : turns.own ≡ []
  pub says : JournalSays p.charter q.seen number part old new
