-- own: what the next op of a process needs.
use Rattle.std.specs.Prelude.{ℕ, ◌<◌, ◌≤◌, ⊤, if◌then◌else◌, length}
use Rattle.engine_text.specs.declared.owner.Owner.{Owner}
use Rattle.engine_text.specs.declared.owner.Owner.TheVariants.{Container as OfContainer, Exec as OfExec}
use Rattle.proc_kernel.specs.Tables.{length_at, process_of}
use Rattle.machine_model.specs.State.{State, is_live}
use Rattle.machine_model.specs.Chain.{Effect}
use Rattle.machine_events.specs.Fit.{CanEndBy}
use Rattle.machine_events.specs.Memory.{Memory}
use Rattle.machine_events.specs.Rooms.{FitsLog, FitsOutput}
use Rattle.machine_events.specs.declared.end_memory.EndMemory.{EndMemory}

-- What the owner's process writes has room for one more record.
abbrev pub HasRecordRoom : Owner → Memory → Type 0
HasRecordRoom (OfContainer n) m = FitsLog n m.state.containers m.logs
HasRecordRoom (OfExec n) m = FitsOutput n m.state.outputs m.outputs

-- Where the effect ends the owner's process, what follows is ready.
abbrev pub CanEnd : (Owner → State → Effect) → Owner → EndMemory → Memory → Type 0
CanEnd e (OfContainer n) brought m = CanEndBy (e (OfContainer n)) n brought m.room m.state × (0 < m.spare)
CanEnd e (OfExec n) brought m = ⊤

-- Of the container and the exec with that number the one whose process lives.
abbrev pub owner_at : ℕ → State → Owner
owner_at n s = if is_live (OfContainer n) s then OfContainer n else OfExec n

-- There is room for what the end of a main process makes longer.
pub record HasEndRoom (m : Memory) : Type 0 where
  pub execs : length m.state.execs ≤ m.room.scratch
  pub timers : length m.state.timers < m.room.timers
  pub removed : length m.state.removed < m.room.removed
  pub kept : length m.state.kept < m.room.kept

-- The end of an exec makes nothing longer.
abbrev pub HasEndRoomOf : Owner → Memory → Type 0
HasEndRoomOf (OfContainer n) m = HasEndRoom m
HasEndRoomOf (OfExec n) m = ⊤

-- There is room for the next op of the owner's process, and for what may follow it.
pub record HasOpRoom (owner : Owner) (m : Memory) : Type 0 where
  pub end : HasEndRoomOf owner m
  pub kept : HasRecordRoom owner m
  pub length : length_at (process_of owner m.state.processes) ≤ m.bytes
  pub spare : 1 < m.spare
