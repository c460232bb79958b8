-- What serving both doors says: of the daemon, of its door, and of why the program ends (own).
use Rattle.std.specs.Prelude.{ℕ, ◌≡◌, ◌≤◌, ◌⊎◌, Bool, true, false, None, nat_lt}
use Rattle.engine_ports.specs.Rose.{Rose}
use Rattle.engine_ports.specs.Door.{DoorView, IsEmpty}
use Rattle.session_model.specs.declared.ending.Worst.{Worst}
use Rattle.session_model.specs.declared.ending.Worst.TheVariants.{NoMemory, Closed}
use Rattle.daemon_core.specs.declared.daemon.Daemon.{Daemon}
use Rattle.door_model.specs.Connections.{most_from}
use Rattle.daemon_shared.specs.Running.{RunsDaemon}
use Rattle.front_session.specs.Sharing.{untold}
use Rattle.lab_line.specs.declared.line.Lab.{Lab}
use Rattle.lab_program.specs.Opening.{charter_by}
use Rattle.lab_program.specs.Whys.{why_by}
use Rattle.lab_program.specs.declared.why.Control.{Control}
use Rattle.lab_program.specs.declared.why.Control.TheVariants as control
use Rattle.lab_program.specs.declared.why.Why.{Why}

-- a new daemon of the line's seed and entries served those who came to the bound door, each by its clock; without
-- memory for a daemon the door isn't touched
abbrev pub RunsOver : Lab → ℕ → Worst → DoorView → DoorView → Type 0
RunsOver lab opening worst d d' =
    ((worst ≡ NoMemory) × (d' ≡ d))
    ⊎ ((daemon : Daemon) × RunsDaemon (charter_by lab opening) None (most_from 0 None) worst daemon d d')

-- the daemon served those who came, whose connections go untold behind their fronts; or no thread could be had for control or for standard
-- input, and nobody is taken in
abbrev pub ServesTools : Lab → ℕ → Worst → DoorView → DoorView → Type 0
ServesTools lab opening worst d d' =
    RunsOver lab opening worst (untold d) (untold d') ⊎ ((worst ≡ Closed) × (d' ≡ d))

-- connections were taken in, and none was left to the door
pub record TakesFrom (e e' : DoorView) : Type 0 where
  pub past : e'.past ≡ e.past
  pub faults : e.faults ≤ e'.faults
  pub bound : e'.bound ≡ e.bound

-- why no more are taken in: the door failed, or none is to come
abbrev pub Halts : Bool → DoorView → DoorView → Type 0
Halts true e e' = Rose e.faults e'.faults
Halts false e e' = IsEmpty e'.coming

-- connections were taken in until then
abbrev pub TookIn : Bool → DoorView → DoorView → Type 0
TookIn failed e e' = TakesFrom e e' × Halts failed e e'

-- why none of control's are, by what taking them in came to: where one asked for the end, or memory was refused, more may be to come
abbrev pub HaltsControl : Control → DoorView → DoorView → Type 0
HaltsControl control.Failed e e' = Halts true e e'
HaltsControl control.Shut e e' = Halts false e e'
HaltsControl other e e' = Unit {0}

-- control's connections were taken in until then
pub record ServesControl (came : Control) (e e' : DoorView) : Type 0 where
  pub takes : TakesFrom e e'
  pub halts : HaltsControl came e e'

-- both doors were served, the daemon's and control's, and why the program ends then
pub record ServesLab (lab : Lab) (opening : ℕ) (why : Why) (d d' e e' : DoorView) : Type 0 where
  pub worst : Worst
  pub control : Control
  pub why_is : why ≡ why_by worst (nat_lt d.faults d'.faults) control
  pub serves : ServesTools lab opening worst d d'
  pub controls : ServesControl control e e'
