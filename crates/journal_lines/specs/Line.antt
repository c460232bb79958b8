-- Which entries have a line of the journal, and which bytes are one, in each format (own).
use Rattle.std.specs.Prelude.{◌≡◌, ◌≢◌, ℕ, ◌++◌, List, IsTrue, ⊤}
use Rattle.machine_model.specs.History.{is_drop}
use Rattle.engine_text.specs.Soundness.{IsSound}
use Rattle.engine_text.specs.declared.entry.Entry.{Entry}
use Rattle.engine_text.specs.declared.reply.Reply.{Reply}
use Rattle.engine_text.specs.declared.reply.Reply.TheVariants.{Answer, Begun, LogStream, EventStream, JournalStream, Fed, Dropped}
use Rattle.journal_lines.specs.FitsTypes.{EntryFitsTypes}
use Rattle.journal_lines.specs.JournalLines.{journal_line, header_line, IsHeader}
use Rattle.journal_lines.specs.declared.format.Format.{Format}
use Rattle.journal_lines.specs.declared.fault.LineFault.{LineFault}
use Rattle.journal_lines.specs.declared.fault.LineFault.TheVariants.{BadLine, NoMemory}

-- A reply as its line tells it: of a stream where it begins, as if the journal's.
abbrev pub told_reply : Reply → Reply
told_reply (Answer status body) = Answer status body
told_reply (Begun ticket) = Begun ticket
told_reply (LogStream spec) = JournalStream spec.first
told_reply (EventStream first until filter) = JournalStream first
told_reply (JournalStream count) = JournalStream count
told_reply (Fed taken) = Fed taken
told_reply Dropped = Dropped

-- An entry as its line tells it.
abbrev pub told_entry : Entry → Entry
told_entry e = record e { reply = told_reply e.reply }

-- An entry has a line where a request can make its call, its values are what their types hold, its line tells the whole
-- reply, and only a drop is answered by its ticket's end.
pub record HasLine (e : Entry) : Type 0 where
  pub sound : IsSound e.call
  pub types : EntryFitsTypes e
  pub told : told_reply e.reply ≡ e.reply
  pub dropped : e.reply ≡ Dropped → IsTrue (is_drop e.call)

-- The bytes are a line of a journal of that format.
abbrev pub IsJournalLine : Format → List ℕ → Type 0
IsJournalLine format bytes = (e : Entry) × HasLine e × (journal_line format e ≡ bytes)

-- A line is refused: the bytes are none, or there was no memory.
abbrev pub IsLineFault : Format → List ℕ → LineFault → Type 0
IsLineFault format bytes BadLine = IsJournalLine format bytes → ⊥
IsLineFault format bytes NoMemory = ⊤

-- They begin with one.
abbrev pub BeginsWithLine : Format → List ℕ → Type 0
BeginsWithLine format bytes = (line : List ℕ) × (rest : List ℕ) × IsJournalLine format line × (line ++ rest ≡ bytes)

-- A header is refused in the same way.
abbrev pub IsHeaderFault : List ℕ → LineFault → Type 0
IsHeaderFault bytes BadLine = (seed : List ℕ) (opening : ℕ) → IsHeader seed opening → header_line seed opening ≢ bytes
IsHeaderFault bytes NoMemory = ⊤

-- They begin with one.
abbrev pub BeginsWithHeader : List ℕ → Type 0
BeginsWithHeader bytes =
    (seed : List ℕ) × (opening : ℕ) × (rest : List ℕ) × IsHeader seed opening × (header_line seed opening ++ rest ≡ bytes)
