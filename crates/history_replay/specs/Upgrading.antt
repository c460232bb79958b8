-- What becomes of a journal's text in format 2 (own: the same history, told with its opening).
use Rattle.std.specs.Prelude.{◌≡◌, ℕ, Bool, true, false, IsFalse, List, ◌++◌, length}
use Rattle.std.specs.List.{flat_map, AllByRecursion}
use Rattle.hex.specs.Hex.{IsBytes}
use Rattle.machine_model.specs.History.{Charter, IsCharter, IsLegal}
use Rattle.journal_lines.specs.JournalLines.{journal_line}
use Rattle.journal_lines.specs.Line.{HasLine, BeginsWithHeader}
use Rattle.journal_lines.specs.Verdict.{IsVerdict, IsReadAs, Reading}
use Rattle.journal_lines.specs.declared.format.Format.TheVariants.{First, Second}
use Rattle.journal_lines.specs.declared.verdict.Verdict.{Verdict}
use Rattle.journal_lines.specs.declared.verdict.Verdict.TheVariants.{Legal}
use Rattle.engine_text.specs.declared.entry.Entry.{Entry}
use Rattle.engine_text.specs.declared.step.Step.{Step}
use Rattle.history_replay.specs.Legal.{journal_of}
use Rattle.history_replay.specs.declared.upgrading.Upgraded.{Upgraded}
use Rattle.history_replay.specs.declared.upgrading.Upgraded.TheVariants.{Text, Not}

-- Whether it is said that a text is legal.
abbrev pub is_legal : Verdict → Bool
is_legal (Legal steps) = true
is_legal v = false

-- The text is legal, the journal of a legal history, and the new text is the same history's in format 2; of the new one it is said,
-- whatever is given, that it is legal.
pub record IsInSecond (given : Charter) (text new : List ℕ) : Type 0 where
  pub how : Reading
  pub history : List Step
  pub verdict : IsVerdict given text (Legal (length history))
  pub read : IsReadAs given text how
  pub legal : IsLegal how.charter history
  pub old : text ≡ journal_of how.format how.charter history
  pub told : new ≡ journal_of Second how.charter history
  pub again : (other : Charter) → IsVerdict other new (Legal (length history))

-- A legal text becomes one of format 2, and another is refused with its verdict.
abbrev pub IsUpgraded : Charter → List ℕ → Upgraded → Type 0
IsUpgraded given text (Text new) = IsInSecond given text new
IsUpgraded given text (Not v) = IsVerdict given text v × IsFalse (is_legal v)

-- Each legal text has one, of as many steps.
abbrev pub UpgradeLaw : Type 0
UpgradeLaw = (given : Charter) (text : List ℕ) (steps : ℕ) → IsCharter given → IsBytes given.seed → IsVerdict given text (Legal steps)
    → (new : List ℕ) × (up : IsInSecond given text new) × (length up.history ≡ steps)

-- ---- on the way

-- No header stands before the text's lines.
abbrev pub HasNoHeader : List ℕ → Type 0
HasNoHeader text = BeginsWithHeader text → ⊥

-- The text is the lines of entries in format 1.
abbrev pub AreLines : List ℕ → Type 0
AreLines text = (es : List Entry) × AllByRecursion HasLine es × (text ≡ flat_map (journal_line First) es)

-- Their lines in format 2 were put behind what stood there.
abbrev pub AreRewritten : List ℕ → List ℕ → List ℕ → Type 0
AreRewritten text old new =
    (es : List Entry) → AllByRecursion HasLine es → text ≡ flat_map (journal_line First) es → new ≡ old ++ flat_map (journal_line Second) es
