use Rattle.std.proofs.Common.{ℕ, List}
use Rattle.engine_ports.specs.Sink.{SinkTook}
use Rattle.control_session.proofs.journal.hand_on.Given as goal

-- some bytes were written
abbrev pub invariant-loop : goal.invariant-loop
invariant-loop g l = (bytes : List ℕ) × SinkTook (g.K.Sink.takes l.fn.sink) bytes (g.K.Sink.takes l.sink)
