-- How a line's daemon is opened: its charter, and the clock of its sessions (own).
use Rattle.std.specs.Prelude.{ℕ, Option, Some, None}
use Rattle.machine_model.specs.History.{Charter}
use Rattle.engine_line.specs.declared.line.Line.{Line}
use Rattle.engine_line.specs.declared.line.Stepping.{Stepping}
use Rattle.daemon_core.specs.Storing.{charter_of}

-- a daemon has the line's seed of ids, and a journal of the line's entries at most
abbrev pub charter_by : Line → ℕ → Charter
charter_by line opening = charter_of line.seed opening line.entries

-- START and STEP of the clock that a line sets
abbrev pub steps_of : Option Stepping → Option (ℕ × ℕ)
steps_of None = None
steps_of (Some stepping) = Some (stepping.start, stepping.step)
