-- A connection that a loop serves, by polls of its session between those of others. own: the one-thread daemon of this project.
use Rattle.std.specs.Prelude.{ℕ, ◌≡◌, ◌⊎◌, Bool, List, [], ◌∷◌, ◌++◌, All, Contains}
use Rattle.std.specs.List.{filter}
use Rattle.engine_ports.specs.Rose.{Rose}
use Rattle.engine_ports.specs.Source.{SourceView, SourceGave, SourceEnded}
use Rattle.engine_ports.specs.Sink.{SinkTook}
use Rattle.engine_ports.specs.Clock.{ClockView}
use Rattle.engine_ports.specs.Door.{Outside, outside, IsNew}
use Rattle.engine_text.specs.declared.step.Step.{Step}
use Rattle.machine_model.specs.History.{Charter, HasNone}
use Rattle.session_model.specs.declared.ending.Ending.{Ending}
use Rattle.session_model.specs.Session.{Span, IsSession}
use Rattle.polled_model.specs.Polls.{Ports, StandsAtPorts, feeds_end}

-- how far a loop has run: the history that it was given and the steps since, and its clock before and now, which handed these
-- moments
pub record Run : Type 0 where
  pub charter : Charter
  pub given : List Step
  pub added : List Step
  pub moments : List ℕ
  pub clock : ClockView
  pub clock_now : ClockView

abbrev pub history : Run → List Step
history r = r.given ++ r.added

-- the end of connection k's input is fed only where its source has ended
abbrev pub FeedsSo : Run → ℕ → SourceView → SourceView → Type 0
FeedsSo r k v v' = (filter (feeds_end k) r.added ≡ []) ⊎ SourceEnded v v'

-- ---- one that has ended

-- what came with a connection, what was left of it, how its session ended, and of which bytes and moments
pub record Life : Type 0 where
  pub came : Outside
  pub left : Outside
  pub ending : Ending
  pub read : List ℕ
  pub written : List ℕ
  pub handed : List ℕ

-- the loop's clock stands in the place of the connection's
abbrev pub by_clock : Outside → ClockView → Outside
by_clock o t = outside o.source o.sink t

-- a life as a session between two histories
abbrev pub span_of : Run → Life → List Step → List Step → Span
span_of r l from to = record {
  read = l.read;
  written = l.written;
  handed = l.handed;
  from = from;
  to = to;
  old = by_clock l.came r.clock;
  new = by_clock l.left r.clock_now;
}

-- connection k came new; what it read and wrote is a session between two histories of the loop, at moments that its clock handed;
-- and no call of it or of its standard input stands elsewhere among the steps of the loop
pub record Lived (r : Run) (k : ℕ) (l : Life) : Type 0 where
  pub new : IsNew l.came
  pub source : SourceGave l.came.source l.read l.left.source
  pub sink : SinkTook l.came.sink l.written l.left.sink
  pub before : List Step
  pub none_before : HasNone k before
  pub to : List Step
  pub behind : List Step
  pub goes_on : history r ≡ to ++ behind
  pub none_behind : HasNone k behind
  pub at_moments : All (λ m. Contains r.moments m) l.handed
  pub feeds : FeedsSo r k l.came.source l.left.source
  pub pumps : Bool
  pub session : IsSession r.charter k l.ending pumps (span_of r l (r.given ++ before) to)

-- so did all of these, each by its number
abbrev pub AllLived : Run → List (ℕ × Life) → Type 0
AllLived r [] = Unit {0}
AllLived r (x ∷ xs) = Lived r x.0 x.1 × AllLived r xs

-- ---- one that is being served

-- connection k came new, and this is what it has read, written and called since; the daemon stops in a poll of it only where the clock
-- was stopped
pub record Lives (r : Run) (k : ℕ) (came : Outside) (now : Ports) (s : Span) : Type 0 where
  pub new : IsNew came
  pub source : SourceGave came.source s.read now.source.source
  pub sink : SinkTook came.sink s.written now.sink.sink
  pub before : List Step
  pub none_before : HasNone k before
  pub from : s.from ≡ r.given ++ before
  pub to : s.to ≡ history r
  pub at_moments : All (λ m. Contains r.moments m) s.handed
  pub feeds : FeedsSo r k came.source now.source.source
  pub old : s.old ≡ came
  pub at_ports : StandsAtPorts s now
  pub stops : (s.new.clock.stops ≡ 0) ⊎ Rose r.clock.stops r.clock_now.stops
