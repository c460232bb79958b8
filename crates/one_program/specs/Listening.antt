-- What a run of a line says of the door, the daemon behind it and the status (own).
use Rattle.std.specs.Prelude.{ℕ, ◌≡◌, ◌⊎◌, List, [], Option, Some, None, Result, Ok}
use Rattle.engine_ports.specs.Rose.{Rose}
use Rattle.engine_ports.specs.Clock.{ClockView}
use Rattle.engine_ports.specs.Door.{SameDoor}
use Rattle.engine_line.specs.declared.line.OneLine.{OneLine}
use Rattle.engine_line.specs.declared.line.Stepping.{Stepping}
use Rattle.session_model.specs.declared.ending.Worst.{Worst}
use Rattle.session_model.specs.declared.ending.Worst.TheVariants.{NoMemory, Fault}
use Rattle.session_model.specs.Pass.{PassView}
use Rattle.daemon_core.specs.declared.daemon.Daemon.{Daemon}
use Rattle.daemon_core.specs.Passing.{whole_pass}
use Rattle.daemon_core.specs.Storing.{charter_of, pass_of}
use Rattle.door_model.specs.Connections.{most_from}
use Rattle.polled_ports.specs.PollDoor.{PollDoorView, PollBindSays}
use Rattle.engine_loop.specs.Running.{RunsLoop}
use Rattle.engine_serve.specs.OwnClock.{unstopped}
use Rattle.program_parts.specs.Opening.{OpensAt}
use Rattle.program_parts.specs.Statuses.{status_by}

-- connections were served, numbered from the first on, by the handed clock; or by the line's, which is never stopped, and the
-- handed one isn't asked
abbrev pub RunsBy : Option Stepping → ℕ → ℕ → Worst → PassView → PassView → PollDoorView → PollDoorView → ClockView → ClockView → Type 0
RunsBy None first most w p q d d' t t' = RunsLoop first most w p q d d' t t'
RunsBy (Some stepping) first most w p q d d' t t' = (t' ≡ t) × RunsLoop first most w p q d d' unstopped unstopped

-- memory was refused before anyone was taken in: the door, the clock and the runner stand as they stood
abbrev pub HasNoMemory : Worst → ClockView → ClockView → PollDoorView → PollDoorView → ℕ → ℕ → Type 0
HasNoMemory worst t t' d d' faults faults' = (worst ≡ NoMemory) × (t' ≡ t) × (d' ≡ d) × (faults' ≡ faults)

-- or what runs the loop failed
abbrev pub RunnerFails : Worst → ℕ → ℕ → Type 0
RunnerFails worst faults faults' = (worst ≡ Fault) × Rose faults faults'

-- or a daemon that began so went on, and served those who came to the bound door, the line's connections at most
abbrev pub GoesOn : OneLine → ℕ → PassView → Worst → ClockView → ClockView → PollDoorView → PollDoorView → Type 0
GoesOn line first begun worst t t' d d' =
    (daemon : Daemon) × RunsBy line.clock first (most_from first line.connections) worst begun (whole_pass daemon) d d' t t'

-- what became of a bound door and of a daemon that began so: one of these three
pub record ServesDoor (line : OneLine) (first : ℕ) (begun : PassView) (status : ℕ) (t t' : ClockView) (d d' : PollDoorView) (faults faults' : ℕ) : Type 0 where
  pub worst : Worst
  pub status_is : status ≡ status_by worst
  pub comes : HasNoMemory worst t t' d d' faults faults' ⊎ (RunnerFails worst faults faults' ⊎ GoesOn line first begun worst t t' d d')

-- a new daemon was opened, of this seed and of the line's entries, and its connections are numbered from 0
pub record ServesNew (line : OneLine) (seed : List ℕ) (status : ℕ) (t t' : ClockView) (d d' : PollDoorView) (faults faults' : ℕ) : Type 0 where
  pub opening : ℕ
  pub opened : ClockView
  pub opens : OpensAt line.clock opening t opened
  pub serves : ServesDoor line 0 (pass_of (charter_of seed opening line.entries) []) status opened t' d d' faults faults'

-- the door couldn't be bound: its faults rose, nobody is taken in, and neither the clock nor the runner is asked
pub record FailsToBind (status : ℕ) (t t' : ClockView) (d d' : PollDoorView) (faults faults' : ℕ) : Type 0 where
  pub status_is : status ≡ status_by Fault
  pub clock : t' ≡ t
  pub same : SameDoor d.door d'.door
  pub risen : Rose d.door.faults d'.door.faults
  pub runner : faults' ≡ faults

-- the door is bound to this address, and then it serves so
abbrev pub Listens : List ℕ → ℕ → ClockView → ClockView → PollDoorView → PollDoorView → ℕ → ℕ → (PollDoorView → Type 0) → Type 0
Listens addr status t t' d d' faults faults' serves =
    FailsToBind status t t' d d' faults faults'
    ⊎ ((bound : PollDoorView) × PollBindSays addr (Ok tt) d bound × serves bound)
