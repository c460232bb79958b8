-- What is told where no daemon goes on with a written history, and the status then (own).
use Rattle.std.specs.Prelude.{ℕ, ◌≡◌, ◌⊎◌, List, ◌++◌, codes, decimal}
use Rattle.engine_ports.specs.Sink.{SinkView}
use Rattle.journal_lines.specs.declared.verdict.Verdict.{Verdict}
use Rattle.journal_lines.specs.declared.verdict.Verdict.TheVariants.{Legal, Illegal, BadLine}
use Rattle.session_model.specs.declared.ending.Worst.{Worst}
use Rattle.session_model.specs.declared.ending.Worst.TheVariants as worst
use Rattle.program_parts.specs.Statuses.{status_by}
use Rattle.program_parts.specs.Telling.{Tells}
use Rattle.one_program.specs.declared.reading.Unread.{Unread}
use Rattle.one_program.specs.declared.reading.Unread.TheVariants.{TooLong, Failed, NoMemory}

-- a text is told, or its write failed, and the status is that of what was refused
abbrev pub Refuses : List ℕ → ℕ → SinkView → SinkView → Type 0
Refuses text status u u' = (status ≡ status_by worst.Refused) × Tells text u u'

-- nothing is told, and this is the status
abbrev pub TellsNothing : Worst → ℕ → SinkView → SinkView → Type 0
TellsNothing worst status u u' = (status ≡ status_by worst) × (u' ≡ u)

-- why there is no journal
abbrev pub TellsUnread : Unread → ℕ → SinkView → SinkView → Type 0
TellsUnread TooLong status u u' = Refuses (codes "journal too long\n") status u u'
TellsUnread Failed status u u' = TellsNothing worst.Fault status u u'
TellsUnread NoMemory status u u' = TellsNothing worst.NoMemory status u u'

-- at which line a journal isn't legal, what it keeps there, and what is found
abbrev pub illegal_text : ℕ → List ℕ → List ℕ → List ℕ
illegal_text line kept found =
    codes "illegal line " ++ decimal line ++ codes "\nkept " ++ kept ++ codes "\nfound " ++ found ++ codes "\n"

-- the lines of a verdict, as `dockc replay` prints them
abbrev pub verdict_text : Verdict → List ℕ
verdict_text (Legal steps) = codes "legal " ++ decimal steps ++ codes "\n"
verdict_text (Illegal line kept found) = illegal_text line kept found
verdict_text (BadLine line) = codes "bad line " ++ decimal line ++ codes "\n"

-- a verdict is told, or memory for its text was refused
abbrev pub TellsVerdict : Verdict → ℕ → SinkView → SinkView → Type 0
TellsVerdict verdict status u u' =
    Refuses (verdict_text verdict) status u u' ⊎ TellsNothing worst.NoMemory status u u'
