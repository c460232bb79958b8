-- The entry that a line's value says (own).
use Rattle.std.specs.Prelude.{◌≡◌, ℕ, Bool, List, is_some, codes, if◌then◌else◌, Option, Some, None, option_map}
use Rattle.serde_json.specs.Data.{Data}
use Rattle.serde_json.specs.Find.{get}
use Rattle.json_laws.specs.Sound.{IsCarried, line_text}
use Rattle.machine_model.specs.History.{is_drop}
use Rattle.engine_text.specs.declared.call.Call.{Call}
use Rattle.engine_text.specs.declared.entry.Entry.{Entry}
use Rattle.engine_text.specs.declared.reply.Reply.{Reply}
use Rattle.engine_text.specs.declared.reply.Reply.TheVariants.{Answer, Begun, JournalStream, Fed, Dropped}
use Rattle.journal_lines.specs.Reading.Parts.{and_then, text_at, flag_at, natural_at, count_at, status_at}
use Rattle.journal_lines.specs.Reading.Calls.{call_in}

-- Whether there is something at a key.
abbrev pub has_key : List ℕ → Data → Bool
has_key key d = is_some (get key d)

-- ---- replies

-- An answer, a ticket, where a stream begins, and whether input was taken.
abbrev pub answer_in : Data → Option Reply
answer_in d =
    and_then (status_at (codes "status") d) (λ status.
    and_then (text_at (codes "body") d) (λ body.
    Some (Answer status body)))

abbrev pub begun_in : Data → Option Reply
begun_in d = option_map Begun (natural_at (codes "ticket") d)

abbrev pub stream_in : Data → Option Reply
stream_in d = option_map JournalStream (natural_at (codes "from") d)

abbrev pub fed_in : Data → Option Reply
fed_in d = option_map Fed (flag_at (codes "fed") d)

-- A ticket was dropped, by a drop alone.
abbrev pub dropped_in : Bool → Data → Option Reply
dropped_in drop d = if drop then option_map (λ ticket. Dropped) (get (codes "dropped") d) else None

-- The reply beside its call, by the key that it has.
abbrev pub reply_in : Call → Data → Option Reply
reply_in c d =
    if has_key (codes "body") d then answer_in d else
    if has_key (codes "ticket") d then begun_in d else
    if has_key (codes "from") d then stream_in d else
    if has_key (codes "fed") d then fed_in d else
    dropped_in (is_drop c) d

-- ---- entries

-- The call, the reply beside it, and the rest.
abbrev pub call_at : Data → Option Call
call_at d = and_then (get (codes "call") d) call_in

abbrev pub reply_at : Call → Data → Option Reply
reply_at c d = and_then (get (codes "reply") d) (reply_in c)

-- The entry of these parts and the reply of a value.
abbrev pub entry_with : ℕ → ℕ → ℕ → Call → Data → Option Entry
entry_with conn dues moment call d =
    and_then (reply_at call d) (λ reply.
    Some (record { dues = dues; conn = conn; moment = moment; call = call; reply = reply }))

abbrev pub entry_in : Data → Option Entry
entry_in d =
    and_then (count_at (codes "conn") d) (λ conn.
    and_then (natural_at (codes "dues") d) (λ dues.
    and_then (natural_at (codes "moment") d) (λ moment.
    and_then (call_at d) (λ call.
    entry_with conn dues moment call d))))

-- ---- lines

-- The bytes are the line of data that say the entry, and of no others.
abbrev pub IsSaidBy : List ℕ → Entry → Type 0
IsSaidBy line e =
    (d : Data) × (entry_in d ≡ Some e) × ((other : Data) → IsCarried other → line_text other ≡ line → d ≡ other)
