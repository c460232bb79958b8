-- What a run of a line that listens says: of the door, the daemon and the status (own).
use Rattle.std.specs.Prelude.{ℕ, ◌≡◌, ◌⊎◌, List}
use Rattle.engine_ports.specs.Rose.{Rose}
use Rattle.engine_ports.specs.Clock.{ClockView}
use Rattle.engine_ports.specs.Door.{Outside, DoorView, SameDoor, Binds}
use Rattle.engine_line.specs.declared.line.Line.{Line}
use Rattle.session_model.specs.declared.ending.Worst.{Worst}
use Rattle.session_model.specs.declared.ending.Worst.TheVariants.{NoMemory, Fault}
use Rattle.daemon_core.specs.declared.daemon.Daemon.{Daemon}
use Rattle.door_model.specs.Connections.{most_from}
use Rattle.daemon_shared.specs.Running.{RunsDaemon}
use Rattle.program_parts.specs.Address.{addr_of}
use Rattle.program_parts.specs.Opening.{OpensAt}
use Rattle.program_parts.specs.Statuses.{status_by}
use Rattle.engine_program.specs.Opening.{charter_by, steps_of}

-- a new daemon of the line's seed and entries served those who came to the bound door, the line's
-- connections at most; without memory for a daemon the door isn't touched
pub record ServesDoor (line : Line) (status : ℕ) (t t' : ClockView) (d d' : DoorView) : Type 0 where
  pub opening : ℕ
  pub opens : OpensAt line.clock opening t t'
  pub worst : Worst
  pub status_is : status ≡ status_by worst
  pub runs : ((worst ≡ NoMemory) × (d' ≡ d))
      ⊎ ((daemon : Daemon) × RunsDaemon (charter_by line opening) (steps_of line.clock)
      (most_from 0 line.connections) worst daemon d d')

-- the door couldn't be bound: its faults rose, nobody is taken in, and the clock isn't asked
pub record FailsToBind (status : ℕ) (t t' : ClockView) (d d' : DoorView) : Type 0 where
  pub status_is : status ≡ status_by Fault
  pub clock : t' ≡ t
  pub same : SameDoor d d'
  pub faults : Rose d.faults d'.faults

-- the door is bound to this address first
abbrev pub Listens : List ℕ → Line → ℕ → ClockView → ClockView → DoorView → DoorView → Type 0
Listens addr line status t t' d d' =
    FailsToBind status t t' d d'
    ⊎ ((bound : DoorView) × Binds addr d bound × ServesDoor line status t t' bound d')

-- nothing is read or written here
abbrev pub ListenSays : ℕ → Line → ℕ → Outside → Outside → DoorView → DoorView → Type 0
ListenSays port line status o o' d d' =
    (o'.source ≡ o.source) × (o'.sink ≡ o.sink)
    × Listens (addr_of port) line status o.clock o'.clock d d'
