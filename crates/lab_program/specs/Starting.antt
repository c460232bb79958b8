-- How a line starts: both doors are bound, and where they listen is told (own).
use Rattle.std.specs.Prelude.{ℕ, ◌≡◌, ◌⊎◌, List, Result, Ok, Err}
use Rattle.engine_ports.specs.Rose.{Rose}
use Rattle.engine_ports.specs.Clock.{ClockView}
use Rattle.engine_ports.specs.Door.{DoorView, SameDoor, Binds}
use Rattle.engine_ports.specs.Sink.{SinkView, WriteSays}
use Rattle.engine_ports.specs.declared.ports.Failed.{Failed}
use Rattle.lab_line.specs.Texts.{starting_line}
use Rattle.lab_line.specs.declared.line.Lab.{Lab}
use Rattle.lab_program.specs.Opening.{OpensAt, addr_of}
use Rattle.lab_program.specs.declared.starting.Started.{Started}
use Rattle.lab_program.specs.declared.why.Why.{Why}
use Rattle.lab_program.specs.declared.why.Why.TheVariants.{NoListen, NoControl, Untold, NoMemory}

-- the door couldn't be bound: its faults rose
abbrev pub FailsToBind : DoorView → DoorView → Type 0
FailsToBind d d' = SameDoor d d' × Rose d.faults d'.faults

-- what binding both doors says
abbrev pub BindsBoth : Lab → Result (Unit {0}) Why → DoorView → DoorView → DoorView → DoorView → Type 0
BindsBoth lab (Ok x) d d' e e' = Binds (addr_of lab.listen) d d' × Binds (addr_of lab.control) e e'
BindsBoth lab (Err NoMemory) d d' e e' = (d' ≡ d) × (e' ≡ e)
BindsBoth lab (Err NoListen) d d' e e' = FailsToBind d d' × (e' ≡ e)
BindsBoth lab (Err NoControl) d d' e e' = Binds (addr_of lab.listen) d d' × FailsToBind e e'
BindsBoth lab (Err other) d d' e e' = ⊥

-- the starting line was written so, of some ports, which the doors told
abbrev pub TellsStart : Lab → ℕ → ℕ → Result (Unit {0}) Failed → SinkView → SinkView → Type 0
TellsStart lab moment listening written u u' =
    (control : ℕ) × WriteSays written (starting_line listening control lab.seed moment) u u'

-- what telling it says: it is written, with the daemon's address; or no door told its port, or the write failed
abbrev pub Tells : Lab → ℕ → Result (List ℕ) Why → SinkView → SinkView → Type 0
Tells lab moment (Ok address) u u' =
    (listening : ℕ) × (address ≡ addr_of listening) × TellsStart lab moment listening (Ok tt) u u'
Tells lab moment (Err NoMemory) u u' = u' ≡ u
Tells lab moment (Err Untold) u u' =
    (u' ≡ u) ⊎ ((failed : Failed) × (listening : ℕ) × TellsStart lab moment listening (Err failed) u u')
Tells lab moment (Err other) u u' = ⊥

-- both doors are bound, and the moment of the opening is asked for
abbrev pub Opens : Lab → ℕ → ClockView → ClockView → DoorView → DoorView → DoorView → DoorView → Type 0
Opens lab moment t t' d d' e e' =
    Binds (addr_of lab.listen) d d' × Binds (addr_of lab.control) e e' × OpensAt lab.clock moment t t'

-- what starting says
abbrev pub Starts : Lab → Result Started Why → ClockView → ClockView → SinkView → SinkView → DoorView → DoorView → DoorView → DoorView → Type 0
Starts lab (Ok started) t t' u u' d d' e e' =
    Opens lab started.moment t t' d d' e e' × Tells lab started.moment (Ok started.address) u u'
Starts lab (Err NoMemory) t t' u u' d d' e e' =
    (u' ≡ u)
    × (((t' ≡ t) × (d' ≡ d) × (e' ≡ e)) ⊎ ((moment : ℕ) × Opens lab moment t t' d d' e e'))
Starts lab (Err NoListen) t t' u u' d d' e e' = (t' ≡ t) × (u' ≡ u) × FailsToBind d d' × (e' ≡ e)
Starts lab (Err NoControl) t t' u u' d d' e e' =
    (t' ≡ t) × (u' ≡ u) × Binds (addr_of lab.listen) d d' × FailsToBind e e'
Starts lab (Err Untold) t t' u u' d d' e e' =
    (moment : ℕ) × Opens lab moment t t' d d' e e' × Tells lab moment (Err Untold) u u'
Starts lab (Err other) t t' u u' d d' e e' = ⊥
