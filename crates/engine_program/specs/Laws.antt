-- Laws of the statuses 4 and 5 of a line that listens (own: the statuses of this project).
use Rattle.std.specs.Prelude.{ℕ, ◌≡◌, ◌⊎◌, List, Contains, Some}
use Rattle.engine_ports.specs.Rose.{Rose}
use Rattle.engine_ports.specs.Clock.{ClockView}
use Rattle.engine_ports.specs.Door.{DoorView}
use Rattle.engine_line.specs.declared.line.Line.{Line}
use Rattle.engine_line.specs.declared.line.Stepping.{Stepping}
use Rattle.session_model.specs.declared.ending.Worst.TheVariants.{Fault}
use Rattle.daemon_core.specs.declared.daemon.Daemon.{Daemon}
use Rattle.door_model.specs.Connections.{most_from}
use Rattle.daemon_shared.specs.Running.{Life, RunsDaemon}
use Rattle.engine_program.specs.Opening.{charter_by, steps_of}
use Rattle.engine_program.specs.Listening.{Listens}

-- where the line sets the clock, the status is never that of a clock that was stopped
abbrev pub law_never_stopped : Type 0
law_never_stopped =
    (addr : List ℕ) (line : Line) (stepping : Stepping) (t t' : ClockView) (d d' : DoorView)
    → line.clock ≡ Some stepping → Listens addr line 5 t t' d d' → ⊥

-- a read or a write of a connection failed
abbrev pub HasFailed : Life → Type 0
HasFailed l = Rose l.came.source.faults l.left.source.faults ⊎ Rose l.came.sink.faults l.left.sink.faults

-- so it did of one of those that the line's daemon served
pub record SomeFailed (line : Line) (d' : DoorView) : Type 0 where
  pub opening : ℕ
  pub daemon : Daemon
  pub bound : DoorView
  pub runs : RunsDaemon (charter_by line opening) (steps_of line.clock) (most_from 0 line.connections)
      Fault daemon bound d'
  pub life : Life
  pub served : Contains runs.lives life
  pub failed : HasFailed life

-- the status is that of a fault only where the door's faults rose, or those of a connection
abbrev pub law_failed : Type 0
law_failed =
    (addr : List ℕ) (line : Line) (t t' : ClockView) (d d' : DoorView)
    → Listens addr line 4 t t' d d' → Rose d.faults d'.faults ⊎ SomeFailed line d'
