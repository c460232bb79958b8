-- How a wait or a follower goes on between two turns (own: it asks whether its peer is still there, and pauses).
use Rattle.std.specs.Prelude.{◌≡◌, []}
use Rattle.engine_ports.specs.Rose.{Rose}
use Rattle.engine_ports.specs.Sink.{SinkTook}
use Rattle.engine_ports.specs.Clock.{ClockStood}
use Rattle.attach_hub.specs.Connection.{ConnectionView}
use Rattle.attach_hub.specs.declared.polling.Polled.{Polled}
use Rattle.attach_hub.specs.declared.polling.Polled.TheVariants.{Again, Stopped, WriteFault}

-- the clock went on, or was stopped; or the peer is gone, which is a fault of the sink. Nothing is written
abbrev pub PollSays : Polled → ConnectionView → ConnectionView → Type 0
PollSays Again x y = (y ≡ record x { clock = y.clock }) × ClockStood x.clock y.clock
PollSays Stopped x y = (y ≡ record x { clock = y.clock }) × ClockStood x.clock y.clock × Rose x.clock.stops y.clock.stops
PollSays WriteFault x y = (y ≡ record x { sink = y.sink }) × SinkTook x.sink [] y.sink × Rose x.sink.faults y.sink.faults
