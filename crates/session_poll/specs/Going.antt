-- How a session goes on within a poll, step by step (own).
use Rattle.std.specs.Prelude.{ℕ, ◌≡◌, ◌<◌, ◌≤◌, ◌+◌, ◌-◌, ◌⊎◌, Bool, List, [], ◌∷◌, ◌++◌, length, All, IsTrue}
use Rattle.std.specs.List.{filter}
use Rattle.engine_ports.specs.Rose.{Rose}
use Rattle.engine_ports.specs.Source.{SourceGave}
use Rattle.engine_ports.specs.Sink.{SinkTook}
use Rattle.engine_text.specs.declared.reply.Reply.{Reply}
use Rattle.engine_text.specs.declared.step.Step.{Step}
use Rattle.futures.specs.Task.{IsArmed}
use Rattle.futures.specs.declared.task.context.Context.{Context}
use Rattle.machine_model.specs.History.{Charter, calls_of}
use Rattle.polled_ports.specs.PollSink.{PollSinkView}
use Rattle.polled_ports.specs.PollSource.{PollSourceView}
use Rattle.session_model.specs.Moments.{StaysWithin}
use Rattle.session_model.specs.Pass.{PassView, Every, Stays}
use Rattle.session_model.specs.Progress.{AddsOwn}
use Rattle.session_model.specs.Session.{Span}
use Rattle.polled_model.specs.declared.polled.Cause.{Cause}
use Rattle.polled_model.specs.declared.polled.Polled.{Polled}
use Rattle.polled_model.specs.declared.polled.Polled.TheVariants.{Done, Pending}
use Rattle.polled_model.specs.Polls.{AllStandAt, EndsNow, IsLate, IsUpToDate, Ports, RoseBy, StandsAtPorts, Told, WantsTurn, feeds_end, gone_on}
use Rattle.polled_model.specs.Places.{first_place}
use Rattle.polled_model.specs.Progress.{HasEnded, IsIdle}
use Rattle.session_poll.specs.Standing.{IsAt, IsWoken}
use Rattle.session_poll.specs.declared.budget.Budget.{Budget}
use Rattle.session_poll.specs.declared.session.Session.{Session}
use Rattle.session_poll.specs.declared.state.State.{State}
use Rattle.session_poll.specs.declared.state.Step.{Step as Came}
use Rattle.session_poll.specs.declared.state.Step.TheVariants as came
use Rattle.session_poll.specs.declared.told.Told.{Told as Given}

-- what a poll is told, without where memory comes from
abbrev pub told_of : Given → Told
told_of g = record { handed = g.handed; stop = g.stop }

abbrev pub ports_of : PollSourceView → PollSinkView → Ports
ports_of source sink = record { source = source; sink = sink }

-- a session of connection k went on: it made calls of its own at the moment that its poll was told, read and wrote; and of whatever it
-- had done before that was so, what it has done now is so
pub record Goes (k handed : ℕ) (before after : Span → Type 0) (p q : PassView) (v v' : Ports) : Type 0 where
  pub read : List ℕ
  pub written : List ℕ
  pub moments : List ℕ
  pub own : List Step
  pub source : SourceGave v.source.source read v'.source.source
  pub sink : SinkTook v.sink.sink written v'.sink.sink
  pub seen : q.seen ≡ p.seen ++ own
  pub stays : Stays p q
  pub adds : p.number ≡ Every → AddsOwn k p q
  pub at_moment : All (λ m. m ≡ handed) moments
  pub stand : AllStandAt p.charter k handed p.seen p.seen own
  pub fed : filter (feeds_end k) own ≡ []
  pub within : IsTrue p.alone → StaysWithin p.charter p.seen q.seen (handed ∷ [])
  pub comes : (s : Span) → s.to ≡ p.seen → StandsAtPorts s v → before s → after (gone_on s read written moments q.seen v')

-- it stands so inside of a poll, in which the daemon stops or not
abbrev pub IsPolled : Charter → ℕ → Bool → Session → Span → Type 0
IsPolled ch k stop x s = IsAt ch k x s × (IsTrue stop → Rose s.old.clock.stops s.new.clock.stops)

-- it did so much of what one poll may: calls, reads that gave bytes and writes that took some; and no count of waits fell
pub record Spends (k : ℕ) (own : List Step) (v v' : Ports) (b b' : Budget) : Type 0 where
  pub turns : b.turns ≤ length (calls_of k own) + b'.turns
  pub reads : RoseBy (b.reads - b'.reads) v.source.gave v'.source.gave
  pub writes : RoseBy (b.writes - b'.writes) v.sink.took v'.sink.took
  pub source_waits : RoseBy 0 v.source.registered v'.source.registered
  pub sink_waits : RoseBy 0 v.sink.registered v'.sink.registered

-- it may make no call more, or tell no part more
abbrev pub IsSpent : State → Budget → Type 0
IsSpent (State.Streams reply terms place out) b = b.parts ≡ 0
IsSpent state b = b.turns ≡ 0

-- a step waits for that
abbrev pub WaitsFor : Cause → Charter → ℕ → ℕ → State → List Step → Ports → Ports → Budget → Span → Type 0
WaitsFor Cause.Source ch k handed state from v v' b s = Rose v.source.registered v'.source.registered × IsIdle ch k s
WaitsFor Cause.Sink ch k handed state from v v' b s = Rose v.sink.registered v'.sink.registered
WaitsFor Cause.NotYet ch k handed state from v v' b s = IsLate ch k handed from s.to ⊎ IsUpToDate ch k s
WaitsFor Cause.Yield ch k handed state from v v' b s = (IsSpent state b × WantsTurn ch k s) ⊎ ((b.reads ≡ 0) ⊎ (b.writes ≡ 0))

-- behind a step the session goes on, waits or has ended
abbrev pub After : Came → Charter → ℕ → Told → Session → List Step → Ports → Ports → Budget → Span → Type 0
After came.On ch k told x from v v' b s = IsPolled ch k told.stop x s
After (came.Pauses cause) ch k told x from v v' b s = IsPolled ch k told.stop x s × WaitsFor cause ch k told.handed x.state from v v' b s
After (came.Ends e) ch k told x from v v' b s = ((pumps : Bool) × HasEnded ch k e pumps s) × EndsNow e v v'

-- what one poll may do
abbrev pub whole_budget : Budget
whole_budget = record { turns = 16; parts = 16; reads = 64; writes = 64 }

-- a stream stands at this place behind a step: it is the one that was told, a place further for each part; or a call of the step began it
abbrev pub TellsFrom : State → Reply → ℕ → Budget → Budget → Type 0
TellsFrom (State.Streams reply terms from out) reply' to b b' =
    (reply' ≡ reply) × (b'.turns ≡ b.turns) × (from + (b.parts - b'.parts) ≤ to)
TellsFrom state reply to b b' = (to ≡ first_place reply) × (b'.turns < b.turns) × (b'.parts ≡ b'.turns)

-- what a step told, which leaves no more calls than it found
abbrev pub TellsBy : State → State → Budget → Budget → Type 0
TellsBy state (State.Streams reply terms to out) b b' = (b'.turns ≤ b.turns) × TellsFrom state reply to b b'
TellsBy state state' b b' = b'.turns ≤ b.turns

-- what all steps of a poll told: its stream is a place further for each part, from where the poll found it, or from its first place, where a call
-- of the poll began it
abbrev pub HasTold : State → State → Budget → Type 0
HasTold was (State.Streams reply terms to out) b =
    (b.turns ≤ 16) × (16 ≤ b.turns → TellsFrom was reply to whole_budget b) × (b.turns < 16 → first_place reply + (b.turns - b.parts) ≤ to)
HasTold was state b = b.turns ≤ 16

-- where it doesn't end, it did no more than it may
abbrev pub SpendsFor : Came → ℕ → List Step → Ports → Ports → Budget → Budget → Type 0
SpendsFor (came.Ends e) k own v v' b b' = Unit {0}
SpendsFor result k own v v' b b' = Spends k own v v' b b'

-- the task registered, or is woken; where it waits for what wakes nobody, it is woken
abbrev pub WakesFor : Cause → Context → Type 0
WakesFor Cause.Source cx = IsArmed cx
WakesFor Cause.Sink cx = IsArmed cx
WakesFor Cause.NotYet cx = IsWoken cx × IsArmed cx
WakesFor Cause.Yield cx = IsWoken cx × IsArmed cx

abbrev pub IsWokenBy : Came → Context → Type 0
IsWokenBy (came.Pauses cause) cx = WakesFor cause cx
IsWokenBy result cx = Unit {0}

-- a poll that isn't done leaves a task that registered or is woken
abbrev pub IsArmedBy : Polled → Context → Type 0
IsArmedBy (Pending cause) cx = IsArmed cx
IsArmedBy (Done e) cx = Unit {0}

-- steps were made since a poll began
pub record HasGone (ch : Charter) (k : ℕ) (told : Told) (x x' : Session) (p q : PassView) (v v' : Ports) (b : Budget) : Type 0 where
  pub goes : Goes k told.handed (IsPolled ch k told.stop x) (IsPolled ch k told.stop x') p q v v'
  pub spends : Spends k goes.own v v' whole_budget b

-- a step was made
pub record Steps (ch : Charter) (k : ℕ) (told : Told) (result : Came) (x x' : Session) (p q : PassView) (v v' : Ports) (b b' : Budget) : Type 0 where
  pub goes : Goes k told.handed (IsPolled ch k told.stop x) (After result ch k told x' p.seen v v' b') p q v v'
  pub spends : SpendsFor result k goes.own v v' b b'

-- a step that takes no turn and reads nothing, whatever the pass and the source
abbrev pub StepsBySink : ℕ → Came → Session → Session → PollSinkView → PollSinkView → Budget → Budget → Type 0
StepsBySink k result x x' u u' b b' =
    (ch : Charter) (told : Told) (p : PassView) (s : PollSourceView) → Steps ch k told result x x' p p (ports_of s u) (ports_of s u') b b'

-- one that takes no turn and writes nothing
abbrev pub StepsBySource : ℕ → Came → Session → Session → PollSourceView → PollSourceView → Budget → Budget → Type 0
StepsBySource k result x x' s s' b b' =
    (ch : Charter) (told : Told) (p : PassView) (u : PollSinkView) → Steps ch k told result x x' p p (ports_of s u) (ports_of s' u) b b'

-- one that takes turns, and touches no port
abbrev pub StepsByTurn : ℕ → Told → Came → Session → Session → PassView → PassView → Budget → Budget → Type 0
StepsByTurn k told result x x' p q b b' = (v : Ports) → Steps p.charter k told result x x' p q v v b b'

-- one that takes turns, and reads nothing
abbrev pub StepsByTurnAndSink : ℕ → Told → Came → Session → Session → PassView → PassView → PollSinkView → PollSinkView → Budget → Budget → Type 0
StepsByTurnAndSink k told result x x' p q u u' b b' =
    (s : PollSourceView) → Steps p.charter k told result x x' p q (ports_of s u) (ports_of s u') b b'
