-- What one poll of a session says. own: sessions of this project that hold no thread.
use Rattle.std.specs.Prelude.{ℕ, suc, ◌≡◌, ◌≤◌, ◌+◌, ◌⊎◌, ◌==◌, Bool, true, false, if◌then◌else◌, List, [], ◌∷◌, ◌++◌, length, All, Option, None, Some, IsTrue}
use Rattle.std.specs.List.{filter}
use Rattle.engine_ports.specs.Rose.{Rose, greatest_count}
use Rattle.engine_ports.specs.Source.{SourceGave, SourceEnded}
use Rattle.engine_ports.specs.Sink.{SinkTook}
use Rattle.engine_ports.specs.Door.{Outside, outside}
use Rattle.engine_text.specs.declared.call.Call.{Call}
use Rattle.engine_text.specs.declared.call.Call.TheVariants.{Take, Drop, FeedEnd}
use Rattle.engine_text.specs.declared.reply.LogSpec.{LogSpec}
use Rattle.engine_text.specs.declared.reply.Reply.{Reply}
use Rattle.engine_text.specs.declared.reply.Reply.TheVariants.{LogStream}
use Rattle.engine_text.specs.declared.step.Step.{Step}
use Rattle.machine_model.specs.History.{Charter, IsLegal, calls_of, own_calls, input_of, is_own, state_after, moment_used}
use Rattle.http_edge.specs.Message.{Request}
use Rattle.http_edge.specs.Spelling.{Begins}
use Rattle.api_routes.specs.Class.{class_of}
use Rattle.api_routes.specs.declared.class.Takeover.{Takeover}
use Rattle.polled_ports.specs.PollSource.{PollSourceView}
use Rattle.polled_ports.specs.PollSink.{PollSinkView}
use Rattle.session_model.specs.declared.ending.Ending.{Ending}
use Rattle.session_model.specs.declared.ending.Ending.TheVariants as E
use Rattle.session_model.specs.declared.followed.Followed.{Followed}
use Rattle.session_model.specs.declared.followed.Followed.TheVariants as F
use Rattle.session_model.specs.Exchange.{AtSome, EndsSo, IsHeldUp, IsNext, call_of}
use Rattle.session_model.specs.Moments.{ComesTo, StaysWithin}
use Rattle.session_model.specs.Pass.{PassView, Every, Stays}
use Rattle.session_model.specs.Progress.{AddsOwn}
use Rattle.session_model.specs.Session.{Span}
use Rattle.session_model.specs.Turning.{HasBegun, IsNotReady}
use Rattle.polled_model.specs.declared.polled.Cause.{Cause}
use Rattle.polled_model.specs.declared.polled.Polled.{Polled}
use Rattle.polled_model.specs.declared.polled.Polled.TheVariants.{Done, Pending}
use Rattle.polled_model.specs.Places.{first_place}
use Rattle.polled_model.specs.Progress.{IsProgress, IsIdle, HasEnded}
use Rattle.polled_model.specs.Stages.{HoldsTicket, Reads, Streams}
use Rattle.polled_model.specs.Takeovers.{Input, Open, Takes}

-- ---- what a poll is told and what it sees

-- the moment that the poll stands at, and whether the daemon stops
pub record Told : Type 0 where
  pub handed : ℕ
  pub stop : Bool

-- what the source and the sink tell
pub record Ports : Type 0 where
  pub source : PollSourceView
  pub sink : PollSinkView

-- a poll in which the daemon stops counts as a stop of a clock that tells no moments
abbrev pub stops_after : Bool → ℕ → ℕ
stops_after stop n = if stop then suc n else n

abbrev pub outside_of : Ports → ℕ → Outside
outside_of v stops = outside v.source.source v.sink.sink (record { moments = None; stops = stops })

-- a session as a poll of it begins, which tells whether the daemon stops
abbrev pub told_stop : Span → Bool → Span
told_stop s stop = record s {
  new = record s.new { clock = record { moments = None; stops = stops_after stop s.new.clock.stops } };
}

-- a session that went on within a poll: it read and wrote more, was handed more moments, and has come to this history and these ports
abbrev pub gone_on : Span → List ℕ → List ℕ → List ℕ → List Step → Ports → Span
gone_on s read written moments to v = record {
  read = s.read ++ read;
  written = s.written ++ written;
  handed = s.handed ++ moments;
  from = s.from;
  to = to;
  old = s.old;
  new = outside_of v s.new.clock.stops;
}

-- the span of a session behind a poll
abbrev pub grown : Span → List ℕ → List ℕ → List ℕ → List Step → Bool → Ports → Span
grown s read written moments to stop v = gone_on (told_stop s stop) read written moments to v

-- its source and its sink are as it left them
abbrev pub StandsAtPorts : Span → Ports → Type 0
StandsAtPorts s v = s.new ≡ outside_of v s.new.clock.stops

-- ---- where its calls stand

-- a call of connection k or its input, but a drop, stands at this moment, as it counts at some place since a history
abbrev pub StandsAt : Charter → ℕ → ℕ → List Step → List Step → Step → Type 0
StandsAt ch k m from at Step.Due = Unit {0}
StandsAt ch k m from at (Step.Call j t (Drop n)) = Unit {0}
StandsAt ch k m from at (Step.Call j t c) =
    IsTrue (is_own k (Step.Call j t c)) → AtSome from at (λ place. t ≡ moment_used (state_after ch place) m)

-- so do all of these steps, the first of which stands behind a history
abbrev pub AllStandAt : Charter → ℕ → ℕ → List Step → List Step → List Step → Type 0
AllStandAt ch k m from at [] = Unit {0}
AllStandAt ch k m from at (x ∷ xs) = StandsAt ch k m from at x × AllStandAt ch k m from (at ++ x ∷ []) xs

-- ---- what it waits for

-- a ticket that the connection has begun isn't ready behind all that was due by the moment that counted at some place of the poll
abbrev pub IsLate : Charter → ℕ → ℕ → List Step → List Step → Type 0
IsLate ch k m a b =
    (n : ℕ) × HasBegun ch k n b × AtSome a b (λ at. IsNotReady (state_after ch b) (moment_used (state_after ch at) m) (Take n))

-- all of a stream is told and written that its connection has seen, and it isn't the stream's end
abbrev pub IsUpToDate : Charter → ℕ → Span → Type 0
IsUpToDate ch k s =
    (r : Request) × (behind : List ℕ) × (reply : Reply) × (place : ℕ) × (body : List ℕ) × (x : Streams ch k r behind reply place body [] s)
    × EndsSo ch reply F.Stopped body x.late x.at s.to × ComesTo reply F.Stopped x.late

-- the next call of what is fed isn't ready, or all that was read is fed and the source registered; there may be nothing to feed
abbrev pub InputWaits : Charter → ℕ → LogSpec → Input → List Step → List Step → Ports → Ports → Type 0
InputWaits ch k spec (Open left) a b v v' =
    ((left ≡ []) × Rose v.source.registered v'.source.registered)
    ⊎ ((n : ℕ) × (spec.feed ≡ Some n) × ((c : Call) × IsNext spec.owner n left c × IsHeldUp ch c a b))
InputWaits ch k spec input a b v v' = Unit {0}

-- a connection that was taken over waits on both sides: all that was told is written, and its stream is up to date or has ended
abbrev pub IsHalted : Charter → ℕ → List Step → Ports → Ports → Span → Type 0
IsHalted ch k from v v' s =
    (r : Request) × (t : Takeover) × (spec : LogSpec) × (behind : List ℕ) × (input : Input) × (followed : Option Followed)
    × (body : List ℕ) × (x : Takes ch k r t spec behind input followed body [] s) × InputWaits ch k spec input from s.to v v'
    × (followed ≡ None → EndsSo ch (LogStream spec) F.Stopped body x.late x.at s.to)

-- the stream of this reply is told up to this place
abbrev pub IsToldTo : Charter → ℕ → Reply → ℕ → Span → Type 0
IsToldTo ch k reply place s =
    (r : Request) × (behind : List ℕ) × (body : List ℕ) × (rest : List ℕ) × Streams ch k r behind reply place body rest s

-- one turn more is wanted, or one part: a whole request was read whose call isn't made, a ticket is held, or a stream is told
abbrev pub WantsTurn : Charter → ℕ → Span → Type 0
WantsTurn ch k s =
    ((tail : List ℕ) × (r : Request) × (behind : List ℕ) × (c : Call) × Reads ch k tail s × Begins tail r behind × (call_of (class_of r) ≡ Some c))
    ⊎ (((n : ℕ) × (r : Request) × (c : Call) × (behind : List ℕ) × (bytes : List ℕ) × HoldsTicket ch k n r c behind bytes s)
    ⊎ (((reply : Reply) × (place : ℕ) × IsToldTo ch k reply place s)
    ⊎ ((r : Request) × (t : Takeover) × (spec : LogSpec) × (behind : List ℕ) × (input : Input) × (followed : Option Followed)
    × (body : List ℕ) × (rest : List ℕ) × Takes ch k r t spec behind input followed body rest s)))

-- the count rose by so many, or stands at its last value
abbrev pub RoseBy : ℕ → ℕ → ℕ → Type 0
RoseBy n before now = (before + n ≤ now) ⊎ (greatest_count ≤ now)

-- its stream is so many places further than a poll found it. Where the poll made a call of the connection, that began the stream, at its
-- first place
abbrev pub TellsOn : Charter → ℕ → ℕ → List Step → Span → Span → Type 0
TellsOn ch k n [] was s =
    (reply : Reply) × (from : ℕ) × (to : ℕ) × IsToldTo ch k reply from was × IsToldTo ch k reply to s × (from + n ≤ to)
TellsOn ch k n calls was s = (reply : Reply) × (to : ℕ) × IsToldTo ch k reply to s × (first_place reply + n ≤ to)

-- it did as much as one poll may: its calls, and the parts of its stream that it told, are 16, each part from where the last one ended and so
-- a place at least, and one more is wanted; 64 reads that gave bytes; or 64 writes that took some
abbrev pub IsTired : Charter → ℕ → List Step → Ports → Ports → Span → Span → Type 0
IsTired ch k own v v' was s =
    (((n : ℕ) × (16 ≤ length (own_calls k own) + n) × (1 ≤ n → TellsOn ch k n (calls_of k own) was s)) × WantsTurn ch k s)
    ⊎ (RoseBy 64 v.source.gave v'.source.gave ⊎ RoseBy 64 v.sink.took v'.sink.took)

-- a poll found the session so, made these calls and left it so: the source or the sink registered in it, or the task was woken
abbrev pub PausesFor : Cause → Charter → ℕ → Told → Type 0 → List Step → Ports → Ports → Span → Span → Type 0
PausesFor Cause.Source ch k told woken own v v' was s =
    Rose v.source.registered v'.source.registered × IsIdle ch k s
PausesFor Cause.Sink ch k told woken own v v' was s = Rose v.sink.registered v'.sink.registered
PausesFor Cause.NotYet ch k told woken own v v' was s =
    woken × (IsLate ch k told.handed was.to s.to ⊎ (IsUpToDate ch k s ⊎ IsHalted ch k was.to v v' s))
PausesFor Cause.Yield ch k told woken own v v' was s = woken × IsTired ch k own v v' was s

-- ---- how it ends

-- a fault rose in this very poll. A stop was told in this one or in an earlier one, since the bytes of its answer may have waited
-- for the sink: the session's own cause tells that
abbrev pub EndsNow : Ending → Ports → Ports → Type 0
EndsNow E.ReadFault v v' = Rose v.source.source.faults v'.source.source.faults
EndsNow E.WriteFault v v' = Rose v.sink.sink.faults v'.sink.sink.faults
EndsNow e v v' = Unit {0}

-- the end of connection k's input
abbrev pub feeds_end : ℕ → Step → Bool
feeds_end k (Step.Call j t (FeedEnd owner n)) = j == input_of k
feeds_end k x = false

-- it is told in these calls only where the source ended in this poll or in an earlier one
abbrev pub FeedsEndsSo : ℕ → List Step → Span → Type 0
FeedsEndsSo k own s = (filter (feeds_end k) own ≡ []) ⊎ SourceEnded s.old.source s.new.source

-- ---- a poll

-- what comes of a session that stood so
abbrev pub Comes : Polled → Charter → ℕ → Told → Type 0 → (Span → Type 0) → List Step → Ports → Ports → Span → Span → Type 0
Comes (Done e) ch k told woken after own v v' was s =
    ((pumps : Bool) × HasEnded ch k e pumps s) × EndsNow e v v'
Comes (Pending cause) ch k told woken after own v v' was s =
    after s × IsProgress ch k s × PausesFor cause ch k told woken own v v' was s

-- a session of connection k was polled: it made calls of its own at the moment that it was told, read and wrote; and of
-- whatever it had done before, this is what it has done now. Before and after say how the session itself stands
pub record Polls (k : ℕ) (told : Told) (result : Polled) (before after : Span → Type 0) (woken : Type 0) (p q : PassView) (v v' : Ports) : Type 0 where
  pub read : List ℕ
  pub written : List ℕ
  pub moments : List ℕ
  pub own : List Step
  pub source : SourceGave v.source.source read v'.source.source
  pub sink : SinkTook v.sink.sink written v'.sink.sink
  pub seen : q.seen ≡ p.seen ++ own
  pub legal : IsLegal q.charter q.seen
  pub stays : Stays p q
  pub adds : p.number ≡ Every → AddsOwn k p q
  pub at_moment : All (λ m. m ≡ told.handed) moments
  pub stand : AllStandAt p.charter k told.handed p.seen p.seen own
  pub within : IsTrue p.alone → StaysWithin p.charter p.seen q.seen (told.handed ∷ [])
  pub comes : (s : Span) → s.to ≡ p.seen → StandsAtPorts s v → before s
      → Comes result p.charter k told woken after own v v' s (grown s read written moments q.seen told.stop v')
  pub feeds : (s : Span) → s.to ≡ p.seen → StandsAtPorts s v → before s
      → FeedsEndsSo k own (grown s read written moments q.seen told.stop v')

-- a poll that isn't done leaves a session on its way, of whatever it did before that is told of it
abbrev pub law_pauses : Type 0
law_pauses =
    (k : ℕ) (told : Told) (cause : Cause) (p q : PassView) (v v' : Ports)
    (x : Polls k told (Pending cause) (IsProgress p.charter k) (IsProgress p.charter k) (Unit {0}) p q v v') (s : Span)
    → s.to ≡ p.seen → StandsAtPorts s v → IsProgress p.charter k s
    → IsProgress p.charter k (grown s x.read x.written x.moments q.seen told.stop v')
