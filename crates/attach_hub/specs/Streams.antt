-- The streams that are followed, by the replies that give them, and a part of one (own).
use Rattle.std.specs.Prelude.{ℕ, ◌≡◌, ◌<◌, ◌≤◌, List, [], ◌∷◌, length}
use Rattle.engine_ports.specs.Clock.{ClockHanded}
use Rattle.engine_text.specs.declared.reply.Reply.{Reply}
use Rattle.engine_text.specs.declared.reply.Reply.TheVariants.{EventStream, JournalStream, LogStream}
use Rattle.engine_text.specs.declared.step.Step.{Step}
use Rattle.machine_model.specs.History.{Charter, events_of, state_after}
use Rattle.session_model.specs.declared.turned.Part.{Part}
use Rattle.session_model.specs.declared.turned.Part.TheVariants.{Whole}
use Rattle.daemon_core.specs.EventTurns.{EventsSay}
use Rattle.daemon_core.specs.JournalTurns.{JournalTurn}
use Rattle.daemon_core.specs.LogTurns.{LogSays}
use Rattle.daemon_core.specs.PartTurns.{PartTurn}
use Rattle.attach_hub.specs.Connection.{ConnectionView}
use Rattle.attach_hub.specs.declared.following.Stream.{Stream}

-- the reply that gives it
abbrev pub reply_of : Stream → Reply
reply_of (Stream.Log spec) = LogStream spec.now
reply_of (Stream.Events first until filter) = EventStream first until filter.now
reply_of (Stream.Journal count) = JournalStream count

-- its first place: of a record of the log, the number of an event, or that of the journal's line
abbrev pub first_of : Reply → ℕ
first_of (LogStream spec) = spec.first
first_of (EventStream first until filter) = first
first_of reply = 0

-- a place that a part of it may be asked from: events up to there have come
abbrev pub StandsIn : Charter → List Step → Reply → ℕ → Type 0
StandsIn ch h (EventStream first until filter) place = place ≤ length (events_of ch h)
StandsIn ch h reply place = Unit {0}

-- what a part of a log or of events tells of a history
abbrev pub PartSays : Reply → ℕ → ℕ → Part → List ℕ → List ℕ → Charter → List Step → Type 0
PartSays (LogStream spec) handed place part old new ch h = LogSays (state_after ch h) spec place part old new
PartSays (EventStream first until filter) handed place part old new ch h = EventsSay ch h handed filter until place part old new
PartSays reply handed place part old new ch h = ⊥

-- a part of it from a place on was asked for, and appended; no call was made. Of a log and of events the clock tells the moment. The
-- journal of so many entries has a line more, its header: behind the last nothing is asked, and before it its next line, without the clock
abbrev pub PartOf : Reply → ℕ → Part → List ℕ → List ℕ → ConnectionView → ConnectionView → Type 0
PartOf (JournalStream count) place Whole old new x y = (y ≡ x) × (count < place) × (new ≡ old)
PartOf (JournalStream count) place part old new x y =
    (y ≡ record x { pass = y.pass }) × (place ≤ count) × JournalTurn x.who.number place part old new x.pass y.pass
PartOf reply place part old new x y =
    (y ≡ record x { pass = y.pass; clock = y.clock }) × (handed : ℕ) × ClockHanded x.clock (handed ∷ []) y.clock
    × PartTurn x.who.number handed part (PartSays reply handed place part old new) x.pass y.pass
