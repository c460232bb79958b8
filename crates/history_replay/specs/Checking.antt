-- What a check of a journal says on its way (own: lines are read from the first on, and calls are made again).
use Rattle.std.specs.Prelude.{◌≡◌, ℕ, List, ◌++◌, Option, Some, None}
use Rattle.std.specs.List.{flat_map}
use Rattle.machine_model.specs.State.{State}
use Rattle.machine_model.specs.History.{Charter, AreLawful}
use Rattle.journal_lines.specs.Entries.{entries_from}
use Rattle.journal_lines.specs.JournalLines.{journal_line}
use Rattle.journal_lines.specs.Line.{HasLine}
use Rattle.journal_lines.specs.Stored.{due_steps, entry_steps}
use Rattle.journal_lines.specs.Due.{IsDueCount, TellsDueCount}
use Rattle.journal_lines.specs.Entry.{IsWrong, IsRight}
use Rattle.journal_lines.specs.Verdict.{IsVerdictFrom}
use Rattle.journal_lines.specs.declared.format.Format.{Format}
use Rattle.journal_lines.specs.declared.verdict.Verdict.{Verdict}
use Rattle.journal_lines.specs.declared.verdict.Verdict.TheVariants.{Legal}
use Rattle.engine_text.specs.declared.entry.Entry.{Entry}
use Rattle.engine_text.specs.declared.step.Step.{Step}
use Rattle.history_replay.specs.Standing.{Standing, behind}
use Rattle.history_replay.specs.declared.dues.Dues.{Dues}
use Rattle.history_replay.specs.declared.dues.Dues.TheVariants.{Made, Other}
use Rattle.history_replay.specs.declared.entry.Said.{Said}
use Rattle.history_replay.specs.declared.entry.Said.TheVariants.{Right, Wrong}

-- A journal's daemon as a check knows it: how many entries it has room for is told by no line.
abbrev pub charter_of : List ℕ → ℕ → Charter
charter_of seed opening = record { seed = seed; opening = opening; greatest = 0 }

-- The machine was brought behind the entry's due steps, which are right; or they are wrong, and the right count is told.
abbrev pub IsRun : Standing → Entry → Standing → Dues → Type 0
IsRun before e after Made = IsDueCount before.state e e.dues × (after ≡ behind before (due_steps e.dues))
IsRun before e after (Other found) = (IsDueCount before.state e e.dues → ⊥) × TellsDueCount before.state e found

-- What is said of an entry: it is right, and the machine was brought behind it; or it is wrong.
abbrev pub IsSaid : Standing → Entry → Standing → Said → Type 0
IsSaid before e after Right = IsRight before.state e × (after ≡ behind before (entry_steps e))
IsSaid before e after (Wrong kept found) = IsWrong before.state e kept found

-- What is said of a line: none where it is right, and the machine was brought behind it; or that is said of each text that
-- begins with it, and it isn't legal.
abbrev pub IsLineSaid : Format → Standing → ℕ → List ℕ → Standing → Option Verdict → Type 0
IsLineSaid format before n line after None =
    (e : Entry) × HasLine e × (journal_line format e ≡ line) × IsRight before.state e × (after ≡ behind before (entry_steps e))
IsLineSaid format before n line after (Some (Legal steps)) = ⊥
IsLineSaid format before n line after (Some v) = (rest : List ℕ) → IsVerdictFrom format before.state n (line ++ rest) v

-- These lines tell these steps: each step is lawful, and the lines are those of their calls, with the machine's replies.
abbrev pub Tells : Format → State → List ℕ → List Step → Type 0
Tells format s lines h = AreLawful s h × (lines ≡ flat_map (journal_line format) (entries_from s 0 h))

-- Where lines are legal, the machine was brought behind the steps that they tell, and the verdict tells how many it has made.
abbrev pub IsMade : Format → Standing → List ℕ → Standing → Verdict → Type 0
IsMade format before lines after (Legal steps) =
    (h : List Step) × Tells format before.state lines h × (after ≡ behind before h) × (after.state.step_count ≡ steps)
IsMade format before lines after v = Unit {0}
