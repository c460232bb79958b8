-- A journal, read from a source to its end (own: how long it may be).
use Rattle.std.specs.Prelude.{ℕ, ◌≡◌, ◌<◌, ◌≤◌, List, ◌++◌, length, Vec, Result, Ok, Err}
use Rattle.std.specs.declared.alloc.Global.{Global}
use Rattle.engine_ports.specs.Rose.{Rose}
use Rattle.engine_ports.specs.Source.{SourceView, SourceGave, SourceEnded}
use Rattle.one_program.specs.declared.reading.Unread.{Unread}
use Rattle.one_program.specs.declared.reading.Unread.TheVariants.{TooLong, Failed, NoMemory}

-- the most bytes of a journal
abbrev pub most_bytes : ℕ
most_bytes = 268_435_456

-- the source gave this text and then ended, and a journal may be so long
pub record GivesText (text : List ℕ) (v v' : SourceView) : Type 0 where
  pub gave : SourceGave v text v'
  pub ended : SourceEnded v v'
  pub fits : length text ≤ most_bytes

-- there is no journal since the source gave so many bytes: more than a journal may have; or not, and a read failed, or memory
-- was refused
abbrev pub StopsAt : Unread → ℕ → SourceView → SourceView → Type 0
StopsAt TooLong count v v' = most_bytes < count
StopsAt Failed count v v' = (count ≤ most_bytes) × Rose v.faults v'.faults
StopsAt NoMemory count v v' = count ≤ most_bytes

abbrev pub IsUnread : Unread → SourceView → SourceView → Type 0
IsUnread why v v' = (bytes : List ℕ) × SourceGave v bytes v' × StopsAt why (length bytes) v v'

abbrev pub ReadsJournal : Result (Vec ℕ Global) Unread → SourceView → SourceView → Type 0
ReadsJournal (Ok text) v v' = GivesText text.items v v'
ReadsJournal (Err why) v v' = IsUnread why v v'

-- ---- on the way

-- a piece stands behind a text, or the two are too long, or memory for it was refused
abbrev pub Adds : Result (Unit {0}) Unread → List ℕ → List ℕ → List ℕ → Type 0
Adds (Ok x) text piece text' = (text' ≡ text ++ piece) × (length text' ≤ most_bytes)
Adds (Err TooLong) text piece text' = most_bytes < length (text ++ piece)
Adds (Err NoMemory) text piece text' = length (text ++ piece) ≤ most_bytes
Adds (Err Failed) text piece text' = ⊥
