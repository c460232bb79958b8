-- What it means that a text is legal (own: it is the journal of a legal history).
use Rattle.std.specs.Prelude.{◌≡◌, ℕ, List, length, All}
use Rattle.std.specs.List.{flat_map}
use Rattle.hex.specs.Hex.{IsBytes}
use Rattle.machine_model.specs.History.{Charter, IsCharter, IsLegal}
use Rattle.journal_lines.specs.Entries.{history_entries}
use Rattle.journal_lines.specs.JournalLines.{journal_text}
use Rattle.journal_lines.specs.Stored.{entry_steps}
use Rattle.journal_lines.specs.FitsTypes.{EntryFitsTypes}
use Rattle.journal_lines.specs.Verdict.{IsVerdict, IsReadAs, Reading}
use Rattle.journal_lines.specs.declared.format.Format.{Format}
use Rattle.journal_lines.specs.declared.format.Format.TheVariants.{First, Second}
use Rattle.journal_lines.specs.declared.verdict.Verdict.{Verdict}
use Rattle.journal_lines.specs.declared.verdict.Verdict.TheVariants.{Legal}
use Rattle.engine_text.specs.declared.step.Step.{Step}

-- The journal of a history's calls in that format, with the replies that they are given.
abbrev pub journal_of : Format → Charter → List Step → List ℕ
journal_of format charter h = journal_text format charter (history_entries charter h)

-- The steps that its lines tell: those of the history up to its last call.
abbrev pub steps_told : Charter → List Step → ℕ
steps_told charter h = length (flat_map entry_steps (history_entries charter h))

-- The text, as it is read, is the journal of a legal history of so many steps.
abbrev pub IsJournal : Charter → List ℕ → ℕ → Type 0
IsJournal given text steps =
    (how : Reading) × (h : List Step) × IsReadAs given text how × IsLegal how.charter h × (length h ≡ steps)
    × (text ≡ journal_of how.format how.charter h)

-- Only a legal history's journal is legal.
abbrev pub LegalLaw : Type 0
LegalLaw = (given : Charter) (text : List ℕ) (steps : ℕ) → IsCharter given → IsVerdict given text (Legal steps)
    → IsJournal given text steps

-- The journal of each legal history is legal, whose seed, calls and replies are what their types hold: texts of UTF-8, numbers
-- of 64 bits, bytes. In format 1 it is by the history's seed and opening, in format 2 whatever is given.
abbrev pub CompleteLaw : Type 0
CompleteLaw = (charter : Charter) (h : List Step) → IsLegal charter h → All EntryFitsTypes (history_entries charter h)
    → IsVerdict charter (journal_of First charter h) (Legal (steps_told charter h))
    × (IsBytes charter.seed → (given : Charter) → IsVerdict given (journal_of Second charter h) (Legal (steps_told charter h)))

-- No text has two verdicts.
abbrev pub OneVerdictLaw : Type 0
OneVerdictLaw = (given : Charter) (text : List ℕ) (v w : Verdict) → IsVerdict given text v → IsVerdict given text w → v ≡ w
