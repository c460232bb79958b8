-- What is said of a journal's text (own: its lines are read from the first on, and its calls are made again).
use Rattle.std.specs.Prelude.{ℕ, ◌+◌, List, [], ◌++◌, ◌≢◌}
use Rattle.machine_model.specs.State.{State}
use Rattle.machine_model.specs.History.{Charter, opening_state}
use Rattle.journal_lines.specs.JournalLines.{journal_line, header_line, IsHeader}
use Rattle.journal_lines.specs.Line.{HasLine, BeginsWithLine, BeginsWithHeader}
use Rattle.journal_lines.specs.Entry.{IsWrong, IsRight, behind_entry}
use Rattle.journal_lines.specs.declared.format.Format.{Format}
use Rattle.journal_lines.specs.declared.format.Format.TheVariants.{First, Second}
use Rattle.journal_lines.specs.declared.verdict.Verdict.{Verdict}
use Rattle.journal_lines.specs.declared.verdict.Verdict.TheVariants.{Legal, Illegal, BadLine}
use Rattle.engine_text.specs.declared.entry.Entry.{Entry}

-- Of what is left of a text of that format, from a state on, its next line having that number: nothing is left; it begins
-- with no line; the next line is wrong; the next line is right, and so it is said of the rest.
pub data IsVerdictFrom (format : Format) : State → ℕ → List ℕ → Verdict → Type 0 where
  AtEnd : (s : State) (n : ℕ) → IsVerdictFrom format s n [] (Legal s.step_count)
  AtNoLine : (s : State) (n : ℕ) (text : List ℕ) → text ≢ [] → (BeginsWithLine format text → ⊥)
      → IsVerdictFrom format s n text (BadLine n)
  AtWrongLine : (s : State) (n : ℕ) (e : Entry) (rest kept found : List ℕ) → HasLine e → IsWrong s e kept found
      → IsVerdictFrom format s n (journal_line format e ++ rest) (Illegal n kept found)
  AfterRightLine : (s : State) (n : ℕ) (e : Entry) (rest : List ℕ) (v : Verdict) → HasLine e → IsRight s e
      → IsVerdictFrom format (behind_entry s e) (n + 1) rest v → IsVerdictFrom format s n (journal_line format e ++ rest) v

-- How a text is read: its format, its daemon's charter, and which bytes are the lines of its entries, the first line's number
-- being that.
pub record Reading : Type 0 where
  pub format : Format
  pub charter : Charter
  pub first : ℕ
  pub lines : List ℕ

-- Behind a header that names seed and opening, whatever else is given; and from the given opening on.
abbrev pub behind_header : Charter → List ℕ → ℕ → List ℕ → Reading
behind_header given seed opening lines =
    record { format = Second; charter = record given { seed = seed; opening = opening }; first = 2; lines = lines }

abbrev pub without_header : Charter → List ℕ → Reading
without_header given text = record { format = First; charter = given; first = 1; lines = text }

-- A text that begins with a header is of format 2, and is read behind it; any other is of format 1, and is read from its beginning.
pub data IsReadAs (given : Charter) : List ℕ → Reading → Type 0 where
  BehindHeader : (seed : List ℕ) (opening : ℕ) (rest : List ℕ) → IsHeader seed opening
      → IsReadAs given (header_line seed opening ++ rest) (behind_header given seed opening rest)
  WithoutHeader : (text : List ℕ) → (BeginsWithHeader text → ⊥) → IsReadAs given text (without_header given text)

-- Of a whole text, as it is read.
abbrev pub IsVerdict : Charter → List ℕ → Verdict → Type 0
IsVerdict given text v =
    (r : Reading) × IsReadAs given text r × IsVerdictFrom r.format (opening_state r.charter) r.first r.lines v
