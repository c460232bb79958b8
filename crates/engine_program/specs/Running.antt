-- What running one session says: of its daemon, its clock and its status (own).
use Rattle.std.specs.Prelude.{ℕ, ◌≡◌, ◌⊎◌, []}
use Rattle.engine_ports.specs.Clock.{ClockView}
use Rattle.engine_ports.specs.Door.{Outside, outside}
use Rattle.engine_line.specs.declared.line.Line.{Line}
use Rattle.session_model.specs.declared.ending.Ending.{Ending}
use Rattle.session_model.specs.declared.ending.Ending.TheVariants.{NoMemory}
use Rattle.session_model.specs.Pass.{PassView}
use Rattle.daemon_core.specs.declared.daemon.Daemon.{Daemon}
use Rattle.daemon_core.specs.Passing.{whole_pass}
use Rattle.daemon_core.specs.Storing.{pass_of}
use Rattle.daemon_shared.specs.Running.{ServesBy}
use Rattle.program_parts.specs.Opening.{OpensAt}
use Rattle.program_parts.specs.Statuses.{status_of}
use Rattle.engine_program.specs.Opening.{charter_by, steps_of}

-- what the session has seen is the whole history of its daemon; without memory for one, nothing
abbrev pub SawAll : Ending → PassView → Type 0
SawAll e p = ((d : Daemon) × (p ≡ whole_pass d)) ⊎ ((e ≡ NoMemory) × (p.seen ≡ []))

-- one session, of connection 0, with a new daemon of the line's seed and entries, by the handed
-- clock or by the line's, which is never stopped; the number of connections has no effect
pub record RunsSession (line : Line) (status : ℕ) (o o' : Outside) : Type 0 where
  pub opening : ℕ
  pub opened : ClockView
  pub opens : OpensAt line.clock opening o.clock opened
  pub ending : Ending
  pub status_is : status ≡ status_of ending
  pub pass : PassView
  pub serves : ServesBy (steps_of line.clock) 0 ending (pass_of (charter_by line opening) []) pass
      (outside o.source o.sink opened) o'
  pub whole : SawAll ending pass
