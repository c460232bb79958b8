-- What a log's stream gives from a place on, tried in this order: its end, a log that is gone, nothing yet, records (own).
use Rattle.std.specs.Prelude.{◌≡◌, ℕ, ◌<◌, ◌≤◌, ◌^◌, ◌&&◌, not, Bool, true, false, Option, Some, None, List, drop, take, length, nat_le, nat_lt, unwrap_or}
use Rattle.machine_model.specs.State.{State}
use Rattle.machine_model.specs.Calls.Logs.{is_selected}
use Rattle.machine_model.specs.Streams.{RunState, Coming, Live, Over}
use Rattle.machine_model.specs.LogStream.{first_kept_removal, is_kept, log_end, log_of, log_reach, removal_of}
use Rattle.engine_text.specs.declared.call.LogAsk.{LogAsk}
use Rattle.engine_text.specs.declared.log.LogRecord.{LogRecord}
use Rattle.engine_text.specs.declared.owner.Owner.{Owner}
use Rattle.engine_text.specs.declared.reply.LogSpec.{LogSpec}
use Rattle.reading_calls.specs.declared.log_part.LogPart.{LogPart}

-- Whether the ask selects a record.
abbrev pub selects : LogAsk → LogRecord → Bool
selects ask r = is_selected ask.out ask.err ask.least ask.greatest r

-- Whether a run has ended.
abbrev pub is_over : RunState → Bool
is_over Coming = false
is_over Live = false
is_over Over = true

-- Whether a known end lies at or before the place.
abbrev pub ends_by : Option ℕ → ℕ → Bool
ends_by None place = false
ends_by (Some end) place = nat_le end place

-- Whether the stream is whole at the place.
abbrev pub is_whole_at : State → LogSpec → ℕ → Bool
is_whole_at s spec place = ends_by (log_end s spec) place

-- Whether a removal lies before the first whose logs are kept.
abbrev pub is_lost : Option ℕ → ℕ → Bool
is_lost None first = false
is_lost (Some next) first = nat_lt next first

-- Whether the owner was removed, and its log is no longer kept.
abbrev pub is_gone : State → Owner → Bool
is_gone s owner = not (is_kept s owner) && is_lost (removal_of s owner) (first_kept_removal s)

-- The stream isn't whole at the place, and its log isn't gone.
abbrev pub GoesOn : State → LogSpec → ℕ → Type 0
GoesOn s spec place = (is_whole_at s spec place ≡ false) × (is_gone s spec.owner ≡ false)

-- It isn't whole, and its log is gone: the owner's removal, and the first whose logs are kept, which lies behind.
abbrev pub IsBehind : State → LogSpec → ℕ → ℕ → ℕ → Type 0
IsBehind s spec place next first =
    (is_whole_at s spec place ≡ false) × (is_kept s spec.owner ≡ false)
    × (removal_of s spec.owner ≡ Some next) × (first ≡ first_kept_removal s) × (next < first)

-- The records from the place to where the stream goes, at least one; their places fit 64 bits.
abbrev pub HasMore : State → LogSpec → ℕ → List LogRecord → Type 0
HasMore s spec place records =
    (is_kept s spec.owner ≡ true) × (place < length (log_of s spec.owner)) × (length (log_of s spec.owner) < 2 ^ 64)
    × (records ≡ drop place (take (log_reach s spec) (log_of s spec.owner)))

-- A part of the stream from the place on.
abbrev pub IsLogPart : State → LogSpec → ℕ → LogPart → Type 0
IsLogPart s spec place LogPart.Whole = is_whole_at s spec place ≡ true
IsLogPart s spec place (LogPart.Gone next first) = IsBehind s spec place next first
IsLogPart s spec place LogPart.UpToDate = GoesOn s spec place × (length (log_of s spec.owner) ≤ place)
IsLogPart s spec place (LogPart.More records) = GoesOn s spec place × HasMore s spec place records.now

-- The same of this log, whose stream has that end.
abbrev pub IsPartIn : List LogRecord → Option ℕ → ℕ → LogPart → Type 0
IsPartIn log end place LogPart.Whole = ends_by end place ≡ true
IsPartIn log end place (LogPart.Gone next first) = ⊥
IsPartIn log end place LogPart.UpToDate = (ends_by end place ≡ false) × (length log ≤ place)
IsPartIn log end place (LogPart.More records) =
    (ends_by end place ≡ false) × (place < length log) × (length log < 2 ^ 64)
    × (records.now ≡ drop place (take (unwrap_or end (length log)) log))
