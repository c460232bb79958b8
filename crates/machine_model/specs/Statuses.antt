-- With which statuses an operation is answered (Docker Engine API v1.43, the responses of each operation; own: 400 for a
-- reference that fits several containers, and the answers that aren't whole).
use Rattle.std.specs.Prelude.{ℕ, ◌==◌, List, [], ◌∷◌, Bool, true, false}
use Rattle.std.specs.List.{list_any}
use Rattle.engine_text.specs.declared.call.Call.{Call}
use Rattle.engine_text.specs.declared.reply.Reply.{Reply}

-- The statuses with which a ticket is answered.
abbrev pub ticket_statuses : List ℕ
ticket_statuses = 200 ∷ 204 ∷ 409 ∷ []

-- The statuses of a call's whole answers; a take hears what its ticket was answered.
abbrev pub statuses_of : Call → List ℕ
statuses_of (Call.Create spec) = 201 ∷ 404 ∷ 409 ∷ []
statuses_of (Call.Start target) = 204 ∷ 304 ∷ 400 ∷ 404 ∷ 409 ∷ []
statuses_of (Call.Stop target wait signal) = 204 ∷ 304 ∷ 400 ∷ 404 ∷ 409 ∷ []
statuses_of (Call.Restart target wait signal) = 204 ∷ 400 ∷ 404 ∷ 409 ∷ []
statuses_of (Call.Kill target signal) = 204 ∷ 400 ∷ 404 ∷ 409 ∷ []
statuses_of (Call.Pause target) = 204 ∷ 400 ∷ 404 ∷ 409 ∷ []
statuses_of (Call.Unpause target) = 204 ∷ 400 ∷ 404 ∷ 409 ∷ []
statuses_of (Call.Rename target name) = 204 ∷ 400 ∷ 404 ∷ 409 ∷ []
statuses_of (Call.Update target policy) = 200 ∷ 400 ∷ 404 ∷ 409 ∷ []
statuses_of (Call.Remove target force) = 204 ∷ 400 ∷ 404 ∷ 409 ∷ []
statuses_of (Call.Wait target until) = 400 ∷ 404 ∷ []
statuses_of (Call.Inspect target) = 200 ∷ 400 ∷ 404 ∷ []
statuses_of (Call.List all limit filter) = 200 ∷ []
statuses_of (Call.Logs target ask) = 400 ∷ 404 ∷ []
statuses_of (Call.Attach target ask) = 400 ∷ 404 ∷ []
statuses_of (Call.ExecCreate target words stdin out err) = 201 ∷ 400 ∷ 404 ∷ 409 ∷ []
statuses_of (Call.ExecStart id detach) = 200 ∷ 400 ∷ 404 ∷ 409 ∷ []
statuses_of (Call.ExecInspect id) = 200 ∷ 404 ∷ []
statuses_of (Call.VolumeCreate name labels) = 201 ∷ []
statuses_of (Call.VolumeInspect name) = 200 ∷ 404 ∷ []
statuses_of (Call.VolumeRemove name) = 204 ∷ 404 ∷ 409 ∷ []
statuses_of (Call.VolumeList filter) = 200 ∷ []
statuses_of (Call.Events since until filter) = []
statuses_of Call.JournalRead = []
statuses_of (Call.Feed owner run bytes) = []
statuses_of (Call.FeedEnd owner run) = []
statuses_of (Call.Take ticket) = ticket_statuses
statuses_of (Call.Drop ticket) = []

-- Whether it is one of these.
abbrev pub is_among : List ℕ → ℕ → Bool
is_among known status = list_any (λ s. s == status) known

-- Whether a call may be answered with that status.
abbrev pub is_status_of : Call → ℕ → Bool
is_status_of c = is_among (statuses_of c)

-- Whether a ticket may.
abbrev pub is_ticket_status : ℕ → Bool
is_ticket_status = is_among ticket_statuses

-- The calls that may give a ticket.
abbrev pub gives_ticket : Call → Bool
gives_ticket (Call.Stop target wait signal) = true
gives_ticket (Call.Restart target wait signal) = true
gives_ticket (Call.Remove target force) = force
gives_ticket (Call.Wait target until) = true
gives_ticket _ = false

-- Those that may give a stream of a log.
abbrev pub gives_log : Call → Bool
gives_log (Call.Logs target ask) = true
gives_log (Call.Attach target ask) = true
gives_log (Call.ExecStart id false) = true
gives_log _ = false

-- The one that gives a stream of events.
abbrev pub gives_events : Call → Bool
gives_events (Call.Events since until filter) = true
gives_events _ = false

-- The one that gives the journal.
abbrev pub gives_journal : Call → Bool
gives_journal Call.JournalRead = true
gives_journal _ = false

-- Those that tell whether input was taken.
abbrev pub is_feed : Call → Bool
is_feed (Call.Feed owner run bytes) = true
is_feed (Call.FeedEnd owner run) = true
is_feed _ = false

-- Those that end a ticket.
abbrev pub ends_ticket : Call → Bool
ends_ticket (Call.Take ticket) = true
ends_ticket (Call.Drop ticket) = true
ends_ticket _ = false

-- Whether the call may be answered so.
abbrev pub is_reply_of : Call → Reply → Bool
is_reply_of c (Reply.Answer status body) = is_status_of c status
is_reply_of c (Reply.Begun ticket) = gives_ticket c
is_reply_of c (Reply.LogStream spec) = gives_log c
is_reply_of c (Reply.EventStream first until filter) = gives_events c
is_reply_of c (Reply.JournalStream count) = gives_journal c
is_reply_of c (Reply.Fed taken) = is_feed c
is_reply_of c Reply.Dropped = ends_ticket c
