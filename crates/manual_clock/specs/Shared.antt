-- What is known of a time behind a lock (own).
use Rattle.std.specs.Prelude.{ℕ, ◌≡◌, ◌≤◌, Result, None}
use Rattle.engine_ports.specs.Clock.{ClockView}
use Rattle.engine_ports.specs.Door.{Outside, DoorView}
use Rattle.manual_clock.specs.Moves.{greatest_moment, moved_to, moved_by}
use Rattle.manual_clock.specs.declared.moving.MoveFault.{MoveFault}
use Rattle.manual_clock.specs.declared.sharing.ManualClock.{ManualClock}

-- the answer of a move at the moment that stood then
pub record MovedTo (to : ℕ) (answer : Result ℕ MoveFault) : Type 0 where
  pub now : ℕ
  pub within : now ≤ greatest_moment
  pub is : answer ≡ moved_to now to

pub record MovedBy (ms : ℕ) (answer : Result ℕ MoveFault) : Type 0 where
  pub now : ℕ
  pub within : now ≤ greatest_moment
  pub is : answer ≡ moved_by now ms

-- a clock over a shared time tells no moments
abbrev pub manual_clock_over : {R : Type 0} → ManualClock R → ClockView
manual_clock_over c = record { moments = None; stops = c.stops }

-- what is left of a connection, by a clock that tells no moments and was stopped so often
abbrev pub with_stops : ℕ → Outside → Outside
with_stops stops o = record o { clock = record { moments = None; stops = stops } }

-- a door that tells no connections
abbrev pub untold : DoorView → DoorView
untold v = record v { coming = None; past = None }
