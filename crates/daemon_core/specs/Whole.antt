-- Replies that are whole answers (own: the other replies begin a wait or a stream, or feed one).
use Rattle.std.specs.Prelude.{Bool, ◌||◌}
use Rattle.http.specs.StatusCode.{IsStatusCode}
use Rattle.engine_text.specs.declared.call.Call.{Call}
use Rattle.engine_text.specs.declared.reply.Reply.{Reply}
use Rattle.engine_text.specs.declared.reply.Reply.TheVariants.{Answer, Begun, EventStream, JournalStream, LogStream, Dropped}
use Rattle.machine_model.specs.Statuses.{gives_log, gives_events, gives_journal}

-- by a code
abbrev pub IsAnswer : Reply → Type 0
IsAnswer (Answer status body) = IsStatusCode status
IsAnswer reply = ⊥

-- whether a call may give a stream
abbrev pub gives_stream : Call → Bool
gives_stream c = gives_log c || gives_events c || gives_journal c

-- a whole answer, a stream of a log, of events or of the journal, or what a ticket's begin and its drop are answered by: no feed
abbrev pub IsPlain : Reply → Type 0
IsPlain (Answer status body) = IsStatusCode status
IsPlain (Begun ticket) = Unit {0}
IsPlain (LogStream spec) = Unit {0}
IsPlain (EventStream first until filter) = Unit {0}
IsPlain (JournalStream count) = Unit {0}
IsPlain Dropped = Unit {0}
IsPlain reply = ⊥
