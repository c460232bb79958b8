-- Turns that a session takes which is polled, each asked for once (own).
use Rattle.std.specs.Prelude.{ℕ, ◌≡◌, [], Some}
use Rattle.engine_ports.specs.Clock.{ClockView, untold_clock}
use Rattle.engine_text.specs.declared.call.Call.{Call}
use Rattle.engine_text.specs.declared.call.Call.TheVariants.{Take}
use Rattle.session_model.specs.declared.turned.Turned.{Turned}
use Rattle.session_model.specs.declared.turned.Turned.TheVariants as T
use Rattle.session_model.specs.Pass.{PassView}
use Rattle.session_model.specs.Progress.{Moves}
use Rattle.daemon_core.specs.Whole.{IsAnswer}
use Rattle.attach_hub.specs.Waiting.{IsDropped}
use Rattle.exchange_laws.specs.Turns.{TurnComes}
use Rattle.polled_steps.specs.declared.turning.Asked.{Asked}
use Rattle.polled_steps.specs.declared.turning.Taken.{Taken}

-- what a turn answered
abbrev pub asked_as : Asked → Turned
asked_as (Asked.Replied reply) = T.Replied reply
asked_as (Asked.Begun n) = T.Begun n
asked_as Asked.JournalFull = T.JournalFull
asked_as Asked.NoMemory = T.NoMemory

abbrev pub taken_as : Taken → Turned
taken_as (Taken.Replied reply) = T.Replied reply
taken_as Taken.NotYet = T.NotYet
taken_as Taken.NoMemory = T.NoMemory

-- a reply is a whole answer
abbrev pub IsAskedWhole : Asked → Type 0
IsAskedWhole (Asked.Replied reply) = IsAnswer reply
IsAskedWhole asked = Unit {0}

abbrev pub IsTakenWhole : Taken → Type 0
IsTakenWhole (Taken.Replied reply) = IsAnswer reply
IsTakenWhole taken = Unit {0}

-- a turn with the call of a request came to that, at the moment that was handed, whatever clock handed it
pub record AsksOnce (k handed : ℕ) (c : Call) (asked : Asked) (p q : PassView) : Type 0 where
  pub comes : TurnComes k handed c (asked_as asked) p q untold_clock untold_clock
  pub whole : IsAskedWhole asked

-- a turn with the take of a ticket did
pub record TakesOnce (k handed n : ℕ) (taken : Taken) (p q : PassView) : Type 0 where
  pub comes : TurnComes k handed (Take n) (taken_as taken) p q untold_clock untold_clock
  pub whole : IsTakenWhole taken

-- a clock that has no moment to hand
abbrev pub silent_clock : ClockView
silent_clock = record { moments = Some []; stops = 0 }

-- the ticket was given up, at no moment of a clock
pub record DropsSo (k n : ℕ) (p q : PassView) : Type 0 where
  pub made : IsDropped p.charter k n p.seen q.seen
  pub moves : Moves k p q silent_clock silent_clock
  pub none : moves.handed ≡ []
