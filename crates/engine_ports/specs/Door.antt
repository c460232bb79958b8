-- What a door tells of its connections. own: the daemon's view of where connections come from.
use Rattle.std.specs.Prelude.{ℕ, ◌≡◌, ◌≤◌, ◌+◌, List, [], ◌∷◌, ◌++◌, Option, Some, None, Result, Ok, Err}
use Rattle.engine_ports.specs.Rose.{Rose}
use Rattle.engine_ports.specs.Source.{SourceView}
use Rattle.engine_ports.specs.Sink.{SinkView}
use Rattle.engine_ports.specs.Clock.{ClockView}
use Rattle.engine_ports.specs.declared.ports.Failed.{Failed}
use Rattle.engine_ports.specs.declared.door.Arrival.{Arrival}
use Rattle.engine_ports.specs.declared.door.Arrival.TheVariants as arrival

-- what the three parts of a connection tell
pub record Outside : Type 0 where
  pub source : SourceView
  pub sink : SinkView
  pub clock : ClockView

abbrev pub outside : SourceView → SinkView → ClockView → Outside
outside s u v = record { source = s; sink = u; clock = v }

-- the connections to come and those that ended with their numbers, where they are told, how many
-- came and haven't been left (a door that keeps no such count tells the greatest one), how often a
-- call failed, and the address that the door is bound to, once it is
pub record DoorView : Type 0 where
  pub coming : Option (List Outside)
  pub past : Option (List (ℕ × Outside))
  pub owed : ℕ
  pub faults : ℕ
  pub bound : Option (List ℕ)

-- a sink that tells its bytes has taken none
abbrev pub IsFresh : Option (List ℕ) → Type 0
IsFresh None = Unit {0}
IsFresh (Some wrote) = wrote ≡ []

-- a connection begins with no count and with nothing written
pub record IsNew (o : Outside) : Type 0 where
  pub faults : o.source.faults ≡ 0
  pub ends : o.source.ends ≡ 0
  pub sink_faults : o.sink.faults ≡ 0
  pub stops : o.clock.stops ≡ 0
  pub fresh : IsFresh o.sink.wrote

-- what came was the first of those to come
abbrev pub Came : {A : Type 0} → Option (List A) → A → Option (List A) → Type 0
Came (Some before) o (Some now) = before ≡ o ∷ now
Came None o None = Unit {0}
Came (Some before) o None = ⊥
Came None o (Some now) = ⊥

-- what is told now is what was told, and this behind it
abbrev pub ToldLast : {A : Type 0} → Option (List A) → A → Option (List A) → Type 0
ToldLast (Some before) o (Some now) = now ≡ before ++ o ∷ []
ToldLast None o None = Unit {0}
ToldLast (Some before) o None = ⊥
ToldLast None o (Some now) = ⊥

-- none is to come, where they are told
abbrev pub IsEmpty : {A : Type 0} → Option (List A) → Type 0
IsEmpty None = Unit {0}
IsEmpty (Some coming) = coming ≡ []

-- what a door is that only may have failed
pub record SameDoor (v v' : DoorView) : Type 0 where
  pub coming : v'.coming ≡ v.coming
  pub past : v'.past ≡ v.past
  pub owed : v'.owed ≡ v.owed
  pub faults : v.faults ≤ v'.faults
  pub bound : v'.bound ≡ v.bound

-- a door is bound to this address, and else as it was
pub record Binds (addr : List ℕ) (v v' : DoorView) : Type 0 where
  pub coming : v'.coming ≡ v.coming
  pub past : v'.past ≡ v.past
  pub owed : v'.owed ≡ v.owed
  pub faults : v.faults ≤ v'.faults
  pub bound : v'.bound ≡ Some addr

-- a connection came: the first of those to come, new
pub record TakesIn (o : Outside) (v v' : DoorView) : Type 0 where
  pub came : Came v.coming o v'.coming
  pub new : IsNew o
  pub past : v'.past ≡ v.past
  pub owed : Rose v.owed v'.owed
  pub faults : v.faults ≤ v'.faults
  pub bound : v'.bound ≡ v.bound

-- what binding says: the door is bound to the address, or a fault
abbrev pub BindSays : List ℕ → Result (Unit {0}) Failed → DoorView → DoorView → Type 0
BindSays addr (Ok x) v v' = Binds addr v v'
BindSays addr (Err x) v v' = SameDoor v v' × Rose v.faults v'.faults

-- what accepting says: the first connection to come, none, or a fault
abbrev pub AcceptSays : {S K C : Type 0} → (S → K → C → Outside) → Arrival S K C → DoorView → DoorView → Type 0
AcceptSays tells (arrival.Conn s k c) v v' = TakesIn (tells s k c) v v'
AcceptSays tells arrival.Shut v v' = SameDoor v v' × IsEmpty v.coming
AcceptSays tells arrival.Failed v v' = SameDoor v v' × Rose v.faults v'.faults

-- what leaving says: the connection is the last of the past
pub record LeaveSays (number : ℕ) (o : Outside) (v v' : DoorView) : Type 0 where
  pub past : ToldLast v.past (number, o) v'.past
  pub coming : v'.coming ≡ v.coming
  pub owed : v.owed ≤ v'.owed + 1
  pub faults : v'.faults ≡ v.faults
  pub bound : v'.bound ≡ v.bound
