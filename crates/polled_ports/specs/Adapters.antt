-- What the ports over tokio tell. own: their counts alone, and the address of a door that is bound.
use Rattle.std.specs.Prelude.{None}
use Rattle.engine_ports.specs.Adapters.{untold_door as untold}
use Rattle.polled_ports.specs.PollSource.{PollSourceView}
use Rattle.polled_ports.specs.PollSink.{PollSinkView}
use Rattle.polled_ports.specs.PollDoor.{PollDoorView}
use Rattle.polled_ports.specs.declared.adapters.stream.TcpPollSource.{TcpPollSource}
use Rattle.polled_ports.specs.declared.adapters.stream.TcpPollSink.{TcpPollSink}
use Rattle.polled_ports.specs.declared.adapters.listener.TcpPollDoor.{TcpPollDoor}

abbrev pub source_over : TcpPollSource → PollSourceView
source_over s = record {
  source = record { left = None; faults = s.faults; ends = s.ends };
  gave = s.gave;
  registered = s.waits;
}

abbrev pub sink_over : TcpPollSink → PollSinkView
sink_over s = record { sink = record { wrote = None; faults = s.faults }; took = s.took; registered = s.waits }

-- a door that isn't bound, which tells no connections, and has counted nothing
abbrev pub untold_door : PollDoorView
untold_door = record { door = untold; registered = 0 }

abbrev pub door_over : {R : Type 0} → TcpPollDoor R → PollDoorView
door_over d = record { door = record untold { faults = d.faults; bound = d.bound }; registered = d.waits }
