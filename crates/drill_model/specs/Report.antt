-- The lines of a drill's report (own).
use Rattle.std.specs.Prelude.{ℕ, zero, suc, ◌+◌, List, [], ◌∷◌, ◌++◌, codes, decimal}
use Rattle.journal_lines.specs.declared.verdict.Verdict.{Verdict}
use Rattle.journal_lines.specs.declared.verdict.Verdict.TheVariants.{Legal, Illegal, BadLine}

-- a line: a word and a text, or a word and a number
abbrev pub text_line : List ℕ → List ℕ → List ℕ
text_line word text = word ++ codes " " ++ text ++ codes "\n"

abbrev pub number_line : List ℕ → ℕ → List ℕ
number_line word n = text_line word (decimal n)

-- the line of a status and how often it was answered
abbrev pub answered_line : ℕ → ℕ → List ℕ
answered_line status count = codes "status " ++ decimal status ++ codes " " ++ decimal count ++ codes "\n"

-- it stands there if it was
abbrev pub status_line : ℕ → ℕ → List ℕ
status_line status zero = []
status_line status (suc n) = answered_line status (suc n)

-- those of all statuses from this one on, by their counts
abbrev pub status_lines : ℕ → List ℕ → List ℕ
status_lines first [] = []
status_lines first (count ∷ counts) = status_line first count ++ status_lines (first + 1) counts

-- what is said of the journal: that it is right, or which line isn't, with what it keeps and what is found there
abbrev pub illegal_lines : ℕ → List ℕ → List ℕ → List ℕ
illegal_lines line kept found =
    number_line (codes "illegal line") line ++ text_line (codes "kept") kept ++ text_line (codes "found") found

abbrev pub verdict_lines : Verdict → List ℕ
verdict_lines (Legal steps) = number_line (codes "legal") steps
verdict_lines (Illegal line kept found) = illegal_lines line kept found
verdict_lines (BadLine line) = number_line (codes "bad line") line

-- how many requests were made, how often each status was answered, how many events came, how many containers are left,
-- and what is said of the journal
abbrev pub report_by : ℕ → List ℕ → ℕ → ℕ → Verdict → List ℕ
report_by requests counts events containers verdict =
    number_line (codes "requests") requests ++ status_lines 0 counts ++ number_line (codes "events") events
    ++ number_line (codes "containers") containers ++ verdict_lines verdict
