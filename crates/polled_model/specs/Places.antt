-- How far a stream is told. own: a place of a log is a record, one of the events an event, and one of the journal a line, counted from 0.
use Rattle.std.specs.Prelude.{ℕ, ◌≡◌, ◌≤◌, List, length, take}
use Rattle.std.specs.List.{flat_map}
use Rattle.engine_text.specs.declared.reply.Reply.{Reply}
use Rattle.engine_text.specs.declared.reply.Reply.TheVariants.{LogStream, EventStream, JournalStream}
use Rattle.engine_text.specs.declared.step.Step.{Step}
use Rattle.machine_model.specs.EventLines.{lines_between}
use Rattle.machine_model.specs.History.{Charter, events_of, state_after}
use Rattle.machine_model.specs.LogStream.{log_reach}
use Rattle.journal_lines.specs.Entries.{history_entries}
use Rattle.journal_lines.specs.JournalLines.{lines_of}
use Rattle.session_model.specs.Exchange.{AtSome, TellsTo}

-- where a stream begins
abbrev pub first_place : Reply → ℕ
first_place (LogStream spec) = spec.first
first_place (EventStream first until filter) = first
first_place reply = 0

-- of a stream that is followed from a to b this body is what it tells up to a place: a log as it was kept at some history, no further than its
-- end; events that have come; lines of the journal, but not its last
abbrev pub TellsUpTo : Charter → Reply → List Step → List Step → ℕ → List ℕ → Type 0
TellsUpTo ch (LogStream spec) a b place body =
    AtSome a b (λ at. TellsTo (state_after ch at) spec place body × (place ≤ log_reach (state_after ch at) spec))
TellsUpTo ch (EventStream first until filter) a b place body =
    (first ≤ place) × (place ≤ length (events_of ch b)) × (body ≡ lines_between ch b filter until first place)
TellsUpTo ch (JournalStream count) a b place body =
    (place ≤ count) × (count ≤ length (history_entries ch b)) × (body ≡ flat_map (λ l. l) (take place (lines_of ch b)))
TellsUpTo ch reply a b place body = ⊥
