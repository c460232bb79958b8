-- What a new exec needs (Docker Engine API v1.43, ContainerExec; own: the room for it and its output).
use Rattle.std.specs.Prelude.{◌≡◌, ◌<◌, ◌^◌, length, None}
use Rattle.std.specs.List.{AllByRecursion}
use Rattle.engine_text.specs.declared.exec.Exec.{Exec}
use Rattle.exec_table.specs.Execs.{exec_with_id}
use Rattle.machine_events.specs.Memory.{Memory}

-- There is room for an exec more and its output.
abbrev pub HasExecRoom : Memory → Type 0
HasExecRoom m = length m.state.execs < m.execs

-- The exec may be added: its number is above those of all, and its id is new.
pub record CanAddExec (x : Exec) (m : Memory) : Type 0 where
  pub room : HasExecRoom m
  pub above : AllByRecursion (λ y. y.number < x.number) m.state.execs
  pub id : exec_with_id x.id m.state.execs ≡ None
  pub number : m.state.next_number < 2 ^ 63
