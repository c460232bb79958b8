-- What the clock of a line that sets one tells (own).
use Rattle.std.specs.Prelude.{None}
use Rattle.engine_ports.specs.Clock.{ClockView}

-- a clock that tells no moments, and was never stopped
abbrev pub unstopped : ClockView
unstopped = record { moments = None; stops = 0 }
