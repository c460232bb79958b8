-- own: what a due step does once whose it is is known, and what that needs.
use Rattle.std.specs.Prelude.{◌≡◌, ℕ, ◌<◌, ◌≤◌, Some, ⊤, length}
use Rattle.engine_text.specs.declared.owner.Owner.{Owner}
use Rattle.engine_text.specs.declared.owner.Owner.TheVariants.{Container as OfContainer, Exec as OfExec}
use Rattle.proc_kernel.specs.Processes.{run_due}
use Rattle.proc_kernel.specs.Tables.{due_at, length_at, process_of}
use Rattle.machine_model.specs.State.{State}
use Rattle.machine_model.specs.Chain.{Effect}
use Rattle.machine_model.specs.Due.{stop_deadline, removal_deadline, restart_timer}
use Rattle.machine_model.specs.Effects.Meet.{step_process}
use Rattle.machine_model.specs.History.{greatest_moment}
use Rattle.machine_model.specs.Step.{at_moment}
use Rattle.machine_events.specs.Deadlines.{CanRestart, HasId}
use Rattle.machine_events.specs.Fit.{AreTimely, CanEndBy, CanLaunch, IsScriptOf}
use Rattle.machine_events.specs.Memory.{Memory, HasRoom}
use Rattle.machine_events.specs.Ops.{CanEnd, HasOpRoom, HasRecordRoom}
use Rattle.machine_events.specs.declared.end_memory.EndMemory.{EndMemory}
use Rattle.call_plans.specs.RunEnds.{ServesBy}
use Rattle.container_machine.specs.declared.due.DuePlan.{DuePlan}

-- What the plan does.
abbrev pub due_plan_effect : DuePlan → State → Effect
due_plan_effect (DuePlan.Op owner brought) = step_process run_due owner
due_plan_effect (DuePlan.StopDeadline n brought) = stop_deadline n
due_plan_effect (DuePlan.RemovalDeadline n) = removal_deadline n
due_plan_effect (DuePlan.RestartTimer n script) = restart_timer n

-- ---- what it needs of the tables

-- The op of the owner's process is due, and what it writes or what its end makes longer has its room.
pub record CanRun (owner : Owner) (brought : EndMemory) (m : Memory) : Type 0 where
  pub due : due_at (process_of owner m.state.processes) ≡ Some m.state.clock
  pub clock : m.state.clock ≤ greatest_moment
  pub length : length_at (process_of owner m.state.processes) ≤ m.bytes
  pub kept : HasRecordRoom owner m
  pub end : CanEnd (step_process run_due) owner brought m
  pub spare : 1 < m.spare

-- SIGKILL may be met.
pub record CanMeet (n : ℕ) (brought : EndMemory) (m : Memory) : Type 0 where
  pub timely : AreTimely m.state
  pub room : length m.state.execs ≤ m.room.scratch
  pub end : CanEndBy (stop_deadline n) n brought m.room m.state
  pub spare : 0 < m.spare

-- The tables stand as the plan needs them.
abbrev pub FitsDue : DuePlan → Memory → Type 0
FitsDue (DuePlan.Op owner brought) m = CanRun owner brought m
FitsDue (DuePlan.StopDeadline n brought) m = CanMeet n brought m
FitsDue (DuePlan.RemovalDeadline n) m = HasId n m.state
FitsDue (DuePlan.RestartTimer n script) m = CanLaunch n script m.state × CanRestart n m.state × (0 < m.spare)

-- There is room for it.
abbrev pub HasDueRoom : DuePlan → Memory → Type 0
HasDueRoom (DuePlan.Op owner brought) m = HasOpRoom owner m
HasDueRoom (DuePlan.StopDeadline n brought) m = HasRoom m
HasDueRoom (DuePlan.RemovalDeadline n) m = ⊤
HasDueRoom (DuePlan.RestartTimer n script) m = HasRoom m

-- ---- what it brings

-- What the end of the owner's process wants, where its next op ends it: that of an exec wants nothing.
abbrev pub ServesOwner : Owner → EndMemory → State → Type 0
ServesOwner (OfContainer n) brought s = ServesBy (step_process run_due (OfContainer n)) n brought s
ServesOwner (OfExec n) brought s = ⊤

-- What the plan brings fits the state, in which it is due at that moment.
abbrev pub BringsDue : DuePlan → ℕ → State → Type 0
BringsDue (DuePlan.Op owner brought) t s =
    (due_at (process_of owner s.processes) ≡ Some t) × ServesOwner owner brought (at_moment t s)
BringsDue (DuePlan.StopDeadline n brought) t s = ServesBy (stop_deadline n) n brought (at_moment t s)
BringsDue (DuePlan.RemovalDeadline n) t s = ⊤
BringsDue (DuePlan.RestartTimer n script) t s = IsScriptOf n script s
