-- The lines of the journal in its two formats (own: one entry a line, so that a history can be replayed).
use Rattle.std.specs.Prelude.{◌≡◌, ◌≤◌, ℕ, ◌==◌, Bool, List, ◌∷◌, ◌++◌, if◌then◌else◌, length, codes, map, take}
use Rattle.std.specs.List.{flat_map}
use Rattle.serde_json.specs.Data.{Data, boolean, object, no_members, member}
use Rattle.api_json.specs.Values.{text, natural}
use Rattle.json_laws.specs.Sound.{line_text}
use Rattle.hex.specs.Hex.{encode_lower, IsBytes}
use Rattle.machine_model.specs.History.{Charter, greatest_moment}
use Rattle.engine_text.specs.declared.call.Call.{Call}
use Rattle.engine_text.specs.declared.entry.Entry.{Entry}
use Rattle.engine_text.specs.declared.reply.Reply.{Reply}
use Rattle.engine_text.specs.declared.reply.Reply.TheVariants.{Answer, Begun, LogStream, EventStream, JournalStream, Fed, Dropped}
use Rattle.engine_text.specs.declared.step.Step.{Step}
use Rattle.journal_lines.specs.Entries.{history_entries}
use Rattle.journal_lines.specs.CallFields.{fields_of}
use Rattle.journal_lines.specs.Fields.{fields_value}
use Rattle.journal_lines.specs.declared.format.Format.{Format}
use Rattle.journal_lines.specs.declared.format.Format.TheVariants.{First, Second}

-- A format is told by its number: 1 or 2.
abbrev pub IsFormat : ℕ → Type 0
IsFormat n = (1 ≤ n) × (n ≤ 2)

abbrev pub format_of : ℕ → Format
format_of n = if n == 1 then First else Second

-- A call's value, its keys in byte order.
abbrev pub call_value : Format → Call → Data
call_value format c = fields_value format (fields_of c)

-- ---- replies and lines

-- An answer at once.
abbrev pub answer_value : ℕ → List ℕ → Data
answer_value status body = object (member (codes "body") (text body) (member (codes "status") (natural status) no_members))

-- A stream's reply tells its first place, number or count.
abbrev pub from_value : ℕ → Data
from_value n = object (member (codes "from") (natural n) (member (codes "status") (natural 200) no_members))

-- A number under one key.
abbrev pub one_number : List ℕ → ℕ → Data
one_number key n = object (member key (natural n) no_members)

-- Whether input was taken.
abbrev pub fed_value : Bool → Data
fed_value taken = object (member (codes "fed") (boolean taken) no_members)

-- The ticket that a call ends.
abbrev pub ended_ticket : Call → ℕ
ended_ticket (Call.Take ticket) = ticket
ended_ticket (Call.Drop ticket) = ticket
ended_ticket _ = 0

-- A reply's value, beside its call.
abbrev pub reply_value : Call → Reply → Data
reply_value c (Answer status body) = answer_value status body
reply_value c (Begun ticket) = one_number (codes "ticket") ticket
reply_value c (LogStream spec) = from_value spec.first
reply_value c (EventStream first until filter) = from_value first
reply_value c (JournalStream count) = from_value count
reply_value c (Fed taken) = fed_value taken
reply_value c Dropped = one_number (codes "dropped") (ended_ticket c)

-- An entry's value.
abbrev pub entry_value : Format → Entry → Data
entry_value format e = object (
    member (codes "call") (call_value format e.call) (
    member (codes "conn") (natural e.conn) (
    member (codes "dues") (natural e.dues) (
    member (codes "moment") (natural e.moment) (
    member (codes "reply") (reply_value e.call e.reply) no_members)))))

-- An entry's line.
abbrev pub journal_line : Format → Entry → List ℕ
journal_line format e = line_text (entry_value format e)

-- ---- the header

-- It tells the seed, in hexadecimal, and the moment of the opening.
abbrev pub header_value : List ℕ → ℕ → Data
header_value seed opening = object (
    member (codes "format") (natural 2) (
    member (codes "moment") (natural opening) (
    member (codes "seed") (text (encode_lower seed)) no_members)))

-- Its line, before all others.
abbrev pub header_line : List ℕ → ℕ → List ℕ
header_line seed opening = line_text (header_value seed opening)

-- Its seed has 32 bytes, and its moment is at most the greatest.
pub record IsHeader (seed : List ℕ) (opening : ℕ) : Type 0 where
  pub bytes : IsBytes seed
  pub long : length seed ≡ 32
  pub low : opening ≤ greatest_moment

-- ---- journals

-- The text of these entries: format 2 begins with the header of the opening, and format 1 has none.
abbrev pub journal_text : Format → Charter → List Entry → List ℕ
journal_text First charter es = flat_map (journal_line First) es
journal_text Second charter es = header_line charter.seed charter.opening ++ flat_map (journal_line Second) es

-- A daemon's journal is of format 2: the header of its opening, and the lines of the first n calls of its history.
abbrev pub journal_lines : Charter → List Step → ℕ → List ℕ
journal_lines charter h n = journal_text Second charter (take n (history_entries charter h))

-- The same, line by line: line 0 is the header.
abbrev pub lines_of : Charter → List Step → List (List ℕ)
lines_of charter h = header_line charter.seed charter.opening ∷ map (journal_line Second) (history_entries charter h)
