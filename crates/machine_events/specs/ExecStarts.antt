-- What the start of an exec does to its process (Docker Engine API v1.43, ExecStart; own: what it needs).
use Rattle.std.specs.Prelude.{ℕ, ◌<◌, ◌^◌, Bool, Some}
use Rattle.engine_text.specs.Scripts.{Program}
use Rattle.engine_text.specs.declared.owner.Owner.TheVariants.{Exec as OfExec}
use Rattle.machine_model.specs.Calls.ExecStart.{exec_room, spawn_exec, started}
use Rattle.machine_model.specs.Chain.{Effect, with_exec}
use Rattle.machine_model.specs.Effects.Launch.{spawn}
use Rattle.machine_model.specs.State.{State, change_exec}
use Rattle.machine_events.specs.Memory.{Memory}

-- The exec has started, and its process is spawned.
abbrev pub exec_begun : ℕ → Program → Bool → State → State
exec_begun n program stdin s = spawn (OfExec n) program stdin exec_room (change_exec n (started s) s)

-- The start of the exec with that number, where its words name that program.
abbrev pub start_effect : ℕ → Program → Bool → State → Effect
start_effect n program detach = with_exec n (spawn_exec (Some program) detach)

-- There is a process id more, and room for a process.
pub record CanSpawn (m : Memory) : Type 0 where
  pub pid : m.state.next_pid < 2 ^ 63
  pub spare : 0 < m.spare
