-- What a door in memory tells of the connections that were put there (own).
use Rattle.std.specs.Prelude.{ℕ, List, map}
use Rattle.engine_ports.specs.Clock.{ClockView}
use Rattle.engine_ports.specs.Door.{Outside, outside}
use Rattle.engine_ports.specs.Memory.{Supply, Store, source_of, sink_of}
use Rattle.engine_ports.specs.declared.memory.coming.Waiting.{Waiting}
use Rattle.engine_ports.specs.declared.memory.coming.Departed.{Departed}

-- what a connection in memory tells, by its clock
abbrev pub memory_outside : {T : Type 0} → (T → ClockView) → Supply → Store → T → Outside
memory_outside times source sink clock = outside (source_of source) (sink_of sink) (times clock)

-- the connections to come, and those that ended
abbrev pub waiting_of : {T : Type 0} → (T → ClockView) → List (Waiting T) → List Outside
waiting_of times ws = map (λ w. memory_outside times w.source w.sink w.clock) ws

abbrev pub ended_of : {T : Type 0} → (T → ClockView) → List (Departed T) → List (ℕ × Outside)
ended_of times ds = map (λ d. (d.number, memory_outside times d.parts.from d.parts.into d.parts.time)) ds
