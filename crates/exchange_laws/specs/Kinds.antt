-- Which calls give a stream, and which of them take a connection over (Docker Engine API v1.43, ContainerLogs, SystemEvents,
-- ContainerAttach and ExecStart; own: the journal's).
use Rattle.std.specs.Prelude.{false, Option, Some, None}
use Rattle.engine_text.specs.declared.call.Call.{Call}
use Rattle.engine_text.specs.declared.call.Call.TheVariants as call
use Rattle.engine_text.specs.declared.reply.LogSpec.{LogSpec}
use Rattle.engine_text.specs.declared.reply.Reply.{Reply}
use Rattle.engine_text.specs.declared.reply.Reply.TheVariants.{LogStream}

-- the calls whose streams are sent in chunks: for a log, for events, and for the journal
abbrev pub IsStreamed : Call → Type 0
IsStreamed (call.Logs target ask) = Unit {0}
IsStreamed (call.Events since until filter) = Unit {0}
IsStreamed call.JournalRead = Unit {0}
IsStreamed c = ⊥

-- the calls whose streams take the connection over: an attach, and an exec's start that isn't detached
abbrev pub IsAttaching : Call → Type 0
IsAttaching (call.Attach target ask) = Unit {0}
IsAttaching (call.ExecStart id false) = Unit {0}
IsAttaching c = ⊥

-- the log's stream that a reply gives
abbrev pub stream_of : Reply → Option LogSpec
stream_of (LogStream spec) = Some spec
stream_of reply = None
