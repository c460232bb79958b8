-- What the types of a call and a reply give: texts of UTF-8, numbers of 64 bits, bytes (own).
use Rattle.std.specs.Prelude.{ℕ, ◌<◌, ◌^◌, IsUtf8, ⊤}
use Rattle.engine_text.specs.declared.call.Call.{Call}
use Rattle.engine_text.specs.declared.entry.Entry.{Entry}
use Rattle.engine_text.specs.declared.reply.Reply.{Reply}
use Rattle.journal_lines.specs.CallFields.{fields_of}
use Rattle.journal_lines.specs.Fields.{IsWord, FieldsFitTypes}

-- A number of 32 bits.
abbrev pub IsCount : ℕ → Type 0
IsCount n = n < 2 ^ 32

-- A number of 16 bits.
abbrev pub IsShort : ℕ → Type 0
IsShort n = n < 2 ^ 16

-- Those of a call.
abbrev pub FitsTypes : Call → Type 0
FitsTypes c = FieldsFitTypes (fields_of c)

-- Those of a reply that a line tells.
abbrev pub ReplyFitsTypes : Reply → Type 0
ReplyFitsTypes (Reply.Answer status body) = IsShort status × IsUtf8 body
ReplyFitsTypes (Reply.Begun ticket) = IsWord ticket
ReplyFitsTypes (Reply.LogStream spec) = IsWord spec.first
ReplyFitsTypes (Reply.EventStream first until filter) = IsWord first
ReplyFitsTypes (Reply.JournalStream count) = IsWord count
ReplyFitsTypes (Reply.Fed taken) = ⊤
ReplyFitsTypes Reply.Dropped = ⊤

-- Those of an entry.
pub record EntryFitsTypes (e : Entry) : Type 0 where
  pub conn : IsCount e.conn
  pub dues : IsWord e.dues
  pub moment : IsWord e.moment
  pub call : FitsTypes e.call
  pub reply : ReplyFitsTypes e.reply
