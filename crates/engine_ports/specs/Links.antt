-- What a link in memory tells of the connections that were put there (own).
use Rattle.std.specs.Prelude.{List, map}
use Rattle.engine_ports.specs.Link.{Wire, wire}
use Rattle.engine_ports.specs.Memory.{Supply, Store, source_of, sink_of}
use Rattle.engine_ports.specs.declared.memory.leading.Ready.{Ready}
use Rattle.engine_ports.specs.declared.memory.leading.Closed.{Closed}

-- what a connection in memory tells
abbrev pub memory_wire : Supply → Store → Wire
memory_wire source sink = wire (source_of source) (sink_of sink)

-- the connections to come, and those that ended
abbrev pub ready_of : List Ready → List Wire
ready_of rs = map (λ r. memory_wire r.source r.sink) rs

abbrev pub closed_of : List Closed → List Wire
closed_of cs = map (λ c. memory_wire c.from c.into) cs
