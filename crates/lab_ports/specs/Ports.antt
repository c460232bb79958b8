-- What ports that a signal stops tell (own): their counts alone, and the address that a door is bound to.
use Rattle.std.specs.Prelude.{None}
use Rattle.std.specs.Option.{option_map}
use Rattle.engine_ports.specs.Adapters.{untold_door}
use Rattle.engine_ports.specs.Clock.{ClockView}
use Rattle.engine_ports.specs.Door.{Outside, outside, DoorView}
use Rattle.engine_ports.specs.Sink.{SinkView}
use Rattle.engine_ports.specs.Source.{SourceView}
use Rattle.lab_ports.specs.declared.clock.StopClock.{StopClock}
use Rattle.lab_ports.specs.declared.door.StopDoor.{StopDoor}
use Rattle.lab_ports.specs.declared.input.StopInput.{StopInput}
use Rattle.lab_ports.specs.declared.parts.StopPast.{StopPast}
use Rattle.lab_ports.specs.declared.parts.StopSink.{StopSink}
use Rattle.lab_ports.specs.declared.parts.StopSource.{StopSource}

-- the parts of a connection, and standard input
abbrev pub stop_source_over : StopSource → SourceView
stop_source_over s = record { left = None; faults = s.faults; ends = s.ends }

abbrev pub stop_sink_over : StopSink → SinkView
stop_sink_over s = record { wrote = None; faults = s.faults }

abbrev pub stop_clock_over : {R : Type 0} → StopClock R → ClockView
stop_clock_over c = record { moments = None; stops = c.stops }

abbrev pub stop_input_over : {R : Type 0} → StopInput R → SourceView
stop_input_over s = record { left = None; faults = s.faults; ends = s.ends }

-- what is left of a connection that is closed
abbrev pub stop_counts_of : StopPast → Outside
stop_counts_of p = outside
    (record { left = None; faults = p.read_faults; ends = p.ends })
    (record { wrote = None; faults = p.write_faults })
    (record { moments = None; stops = p.stops })

-- a door, which tells no connections
abbrev pub stop_door_over : {R : Type 0} → StopDoor R → DoorView
stop_door_over d = record untold_door { faults = d.faults; bound = option_map (λ v. v.items) d.bound }
