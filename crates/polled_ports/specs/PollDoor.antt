-- What a door tells that a task polls. own: that of a door, and how often it wasn't ready.
use Rattle.std.specs.Prelude.{ℕ, ◌≡◌, List, Result}
use Rattle.engine_ports.specs.Rose.{Rose}
use Rattle.engine_ports.specs.Clock.{untold_clock}
use Rattle.engine_ports.specs.Door.{Outside, outside, DoorView, SameDoor, TakesIn, IsEmpty, BindSays, LeaveSays}
use Rattle.engine_ports.specs.declared.ports.Failed.{Failed}
use Rattle.futures.specs.declared.task.Poll.{Poll}
use Rattle.futures.specs.declared.task.Poll.TheVariants.{Ready, Pending}
use Rattle.polled_ports.specs.PollSource.{PollSourceView}
use Rattle.polled_ports.specs.PollSink.{PollSinkView}
use Rattle.polled_ports.specs.declared.door.Accepted.{Accepted}
use Rattle.polled_ports.specs.declared.door.Accepted.TheVariants as accepted

-- a door, and how often it wasn't ready, when it registered with the task
pub record PollDoorView : Type 0 where
  pub door : DoorView
  pub registered : ℕ

-- a connection has no clock of its own: one that tells no moments and was never stopped stands in its place
abbrev pub untimed : PollSourceView → PollSinkView → Outside
untimed s u = outside s.source u.sink untold_clock

-- what binding says: as of a door
abbrev pub PollBindSays : List ℕ → Result (Unit {0}) Failed → PollDoorView → PollDoorView → Type 0
PollBindSays addr result v v' = BindSays addr result v.door v'.door × (v'.registered ≡ v.registered)

-- what an accept says: the first connection to come, none, or a fault
abbrev pub AcceptedSays : {S K : Type 0} → (S → K → Outside) → Accepted S K → DoorView → DoorView → Type 0
AcceptedSays tells (accepted.Conn s k) v v' = TakesIn (tells s k) v v'
AcceptedSays tells accepted.Shut v v' = SameDoor v v' × IsEmpty v.coming
AcceptedSays tells accepted.Failed v v' = SameDoor v v' × Rose v.faults v'.faults

-- what a polled accept says: so; or none was there yet, and the door registered
abbrev pub PollAcceptSays : {S K : Type 0} → (S → K → Outside) → Poll (Accepted S K) → PollDoorView → PollDoorView → Type 0
PollAcceptSays tells (Ready accepted) v v' =
    AcceptedSays tells accepted v.door v'.door × (v'.registered ≡ v.registered)
PollAcceptSays tells Pending v v' = (v'.door ≡ v.door) × Rose v.registered v'.registered

-- what leaving says: the connection is the last of the past
abbrev pub PollLeaveSays : ℕ → Outside → PollDoorView → PollDoorView → Type 0
PollLeaveSays number o v v' = LeaveSays number o v.door v'.door × (v'.registered ≡ v.registered)
