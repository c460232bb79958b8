-- A clock that its owner moves (own: what it adds by itself, and how far a move goes).
use Rattle.std.specs.Prelude.{ℕ, Bool, true, false, not, ◌+◌, min, nat_lt, if◌then◌else◌, Result, Ok, Err}
use Rattle.engine_ports.specs.declared.ports.Pause.{Pause}
use Rattle.engine_ports.specs.declared.ports.Pause.TheVariants as pause
use Rattle.manual_clock.specs.declared.moving.Pace.{Pace}
use Rattle.manual_clock.specs.declared.moving.Pace.TheVariants.{Hand, Step}
use Rattle.manual_clock.specs.declared.moving.MoveFault.{MoveFault}
use Rattle.manual_clock.specs.declared.moving.MoveFault.TheVariants.{Backwards, TooFar, PastGreatest}

-- the greatest moment, in milliseconds since 1970
abbrev pub greatest_moment : ℕ
greatest_moment = 9000000000000

-- the most that a move adds: a week
abbrev pub longest_move : ℕ
longest_move = 604800000

-- the moment, what the clock adds by itself, and whether it was stopped
pub record Held : Type 0 where
  pub moment : ℕ
  pub pace : Pace
  pub stopped : Bool

-- ---- moves

-- a move to a moment never goes back, and never on by more than a week or past the greatest moment
abbrev pub moved_to : ℕ → ℕ → Result ℕ MoveFault
moved_to now to =
    if nat_lt to now then Err Backwards
    else if nat_lt (now + longest_move) to then Err TooFar
    else if nat_lt greatest_moment to then Err PastGreatest
    else Ok to

-- a move by at most a week
abbrev pub moved_by : ℕ → ℕ → Result ℕ MoveFault
moved_by now ms = if nat_lt longest_move ms then Err TooFar else moved_to now (now + ms)

-- ---- what goes on by itself

-- the moment so many milliseconds on, up to the greatest
abbrev pub gone_on : ℕ → ℕ → ℕ
gone_on now ms = min (now + ms) greatest_moment

-- the moment behind a reading
abbrev pub after_reading : Pace → ℕ → ℕ
after_reading Hand now = now
after_reading (Step step) now = gone_on now step

-- the moment behind a pause of so many milliseconds
abbrev pub after_pause : Pace → ℕ → ℕ → ℕ
after_pause Hand ms now = now
after_pause (Step step) ms now = gone_on now ms

-- a pause is waited for where nothing is added, until the clock is stopped
abbrev pub is_waited_for : Pace → Bool → Bool
is_waited_for Hand stopped = not stopped
is_waited_for (Step step) stopped = false

-- what a pause answers
abbrev pub pause_by : Bool → Pause
pause_by true = pause.Stop
pause_by false = pause.Go
