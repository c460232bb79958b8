-- What a sink behind a lock, a connection behind a front and a door of such connections tell (own).
use Rattle.std.specs.Prelude.{◌≡◌, None}
use Rattle.engine_ports.specs.Sink.{SinkView, untold_sink}
use Rattle.engine_ports.specs.Clock.{ClockView}
use Rattle.engine_ports.specs.Door.{Outside, outside, DoorView}
use Rattle.engine_ports.specs.declared.door.Arrival.{Arrival}
use Rattle.engine_ports.specs.declared.door.Arrival.TheVariants as arrival
use Rattle.front_session.specs.Front.{new_front}
use Rattle.front_session.specs.declared.reading.FrontSource.{FrontSource}
use Rattle.front_session.specs.declared.sharing.SharedSink.{SharedSink}
use Rattle.front_session.specs.declared.parting.Left.{Left}
use Rattle.front_session.specs.declared.parting.Left.TheVariants.{Parted, Clock}
use Rattle.front_session.specs.declared.parting.FrontPast.{FrontPast}
use Rattle.front_session.specs.declared.opening.Place.{Place}

-- a sink that others share tells no bytes
abbrev pub sink_over : {R K : Type 0} → SharedSink R K → SinkView
sink_over k = record { wrote = None; faults = k.faults }

-- nothing was read or written
abbrev pub IsUnused : {R K : Type 0} → Place R K → Type 0
IsUnused p = (p.front ≡ new_front) × (sink_over p.ours ≡ untold_sink) × (sink_over p.theirs ≡ untold_sink)

-- a connection comes with a front that was given nothing
abbrev pub BeginsNew : {R S K L C : Type 0} → Arrival (FrontSource R S K) L C → Type 0
BeginsNew (arrival.Conn source sink clock) = source.front ≡ new_front
BeginsNew arrived = Unit {0}

-- what is left of a connection's clock
abbrev pub clock_left : {P T : Type 0} → (P → Outside) → (T → ClockView) → Left P T → ClockView
clock_left tells times (Parted past) = (tells past).clock
clock_left tells times (Clock time) = times time

-- what is left of a connection behind a front: the front's own counts, and its clock
abbrev pub past_over : {P T : Type 0} → (P → Outside) → (T → ClockView) → FrontPast P T → Outside
past_over tells times p = outside
    (record { left = None; faults = p.read_faults; ends = p.ends })
    (record { wrote = None; faults = p.write_faults })
    (clock_left tells times p.left)

-- a door that tells no connections
abbrev pub untold : DoorView → DoorView
untold v = record v { coming = None; past = None }
