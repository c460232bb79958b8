-- What adapters over a reader, a writer, a socket and the system's clock do (own: where reader and writer tell their
-- bytes, as the standard library's readers and writers in memory do).
use Rattle.std.specs.Prelude.{ℕ, ◌-◌, ◌/◌, ◌^◌, min, List, [], take, Option, None, Result, Ok, Err}
use Rattle.std.specs.Io.KnownBytes.{Appends, Consumes, Keeps, IsAtEnd}
use Rattle.std.specs.Time.{system_time_nanos}
use Rattle.std.specs.declared.time.SystemTime.{SystemTime}
use Rattle.engine_ports.specs.Source.{SourceView}
use Rattle.engine_ports.specs.Sink.{SinkView, IsFront}
use Rattle.engine_ports.specs.Rose.{greatest_count}
use Rattle.engine_ports.specs.Door.{Outside, outside, DoorView}
use Rattle.engine_ports.specs.Link.{LinkView}
use Rattle.engine_ports.specs.Clock.{ClockView}
use Rattle.engine_ports.specs.declared.adapters.time.SystemClock.{SystemClock}
use Rattle.engine_ports.specs.declared.adapters.connection.TcpLink.{TcpLink}
use Rattle.engine_ports.specs.declared.adapters.listener.TcpDoor.{TcpDoor}
use Rattle.engine_ports.specs.declared.adapters.stream.StreamPast.{StreamPast}
use Rattle.engine_ports.specs.declared.adapters.stream.StreamSink.{StreamSink}
use Rattle.engine_ports.specs.declared.adapters.input.ReadSource.{ReadSource}
use Rattle.engine_ports.specs.declared.adapters.output.WriteSink.{WriteSink}
use Rattle.engine_ports.specs.declared.ports.Failed.{Failed}
use Rattle.engine_ports.specs.declared.ports.Got.{Got}
use Rattle.engine_ports.specs.declared.ports.Got.TheVariants as got

-- what an adapter tells as a source, a sink and a clock: its counts alone
abbrev pub source_over : {R : Type 0} → ReadSource R → SourceView
source_over s = record { left = None; faults = s.faults; ends = s.ends }

abbrev pub sink_over : {W : Type 0} → WriteSink W → SinkView
sink_over s = record { wrote = None; faults = s.faults }

abbrev pub clock_over : {C : Type 0} → SystemClock C → ClockView
clock_over c = record { moments = None; stops = c.stops }

-- the bytes that its reader will give, and those that its writer holds, where these are told
abbrev pub reader_left : {R : Type 0} → (R → Option (List ℕ)) → ReadSource R → Option (List ℕ)
reader_left remaining s = remaining s.reader

abbrev pub writer_holds : {W : Type 0} → (W → Option (List ℕ)) → WriteSink W → Option (List ℕ)
writer_holds contents s = contents s.writer

-- what a read takes of the reader: what stands at the front of the place, or nothing
abbrev pub ReaderGave : Got → List ℕ → Option (List ℕ) → Option (List ℕ) → Type 0
ReaderGave (got.Bytes n) into left left' = Consumes left left' (take n into)
ReaderGave got.End into left left' = Consumes left left' [] × IsAtEnd left'
ReaderGave got.Failed into left left' = Keeps left left'

-- what a write adds to the writer: the whole piece, or a front of it where it fails
abbrev pub WriterTook : Result (Unit {0}) Failed → List ℕ → Option (List ℕ) → Option (List ℕ) → Type 0
WriterTook (Ok x) piece held held' = Appends held held' piece
WriterTook (Err x) piece held held' = (part : List ℕ) × IsFront part piece × Appends held held' part

-- the moment of what the system answered, in whole milliseconds since 1970, as far as 64 bits tell them;
-- where it has no answer, the moment before
abbrev pub moment_of : {E : Type 0} → Result SystemTime E → ℕ → ℕ
moment_of (Ok now) before = min (system_time_nanos now / 1_000_000) (2 ^ 64 - 1)
moment_of (Err error) before = before

-- ---- over TCP

-- what the sink over a connection tells
abbrev pub stream_over : StreamSink → SinkView
stream_over s = sink_over s.sink

-- what is left of a connection that is closed
abbrev pub counts_of : StreamPast → Outside
counts_of p = outside
    (record { left = None; faults = p.read_faults; ends = p.ends })
    (record { wrote = None; faults = p.write_faults })
    (record { moments = None; stops = p.stops })

-- a door that isn't bound and a link, which tell no connections, and have counted nothing
abbrev pub untold_door : DoorView
untold_door = record { coming = None; past = None; owed = greatest_count; faults = 0; bound = None }

abbrev pub untold_link : LinkView
untold_link = record { coming = None; past = None; addresses = None; owed = greatest_count; faults = 0 }

abbrev pub door_over : {R : Type 0} → TcpDoor R → DoorView
door_over d = record untold_door { faults = d.faults; bound = d.bound }

abbrev pub link_over : {R : Type 0} → TcpLink R → LinkView
link_over l = record untold_link { faults = l.faults }
