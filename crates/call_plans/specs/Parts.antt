-- own: the machine as contracts see it.
use Rattle.std.specs.Prelude.{◌≡◌, ◌≤◌}
use Rattle.engine_text.specs.declared.step.Step.{Step}
use Rattle.machine_model.specs.declared.limits.TheConstants.{KEPT_EVENTS}
use Rattle.machine_model.specs.Consistency.{IsConsistent}
use Rattle.machine_model.specs.History.{after_step}
use Rattle.machine_events.specs.Memory.{Memory}

-- Its tables.
pub record MachineParts : Type 0 where
  pub memory : Memory

-- What each machine keeps: its state is consistent, and the moments of the last events have their room.
pub record IsSoundMemory (m : Memory) : Type 0 where
  pub state : IsConsistent m.state
  pub moments : KEPT_EVENTS ≤ m.room.moments

-- A step of the machine: its state is the one behind the step, and its room is as it was.
pub record IsStep (x : Step) (before after : MachineParts) : Type 0 where
  pub state : after.memory.state ≡ after_step before.memory.state x
  pub room : after.memory.room ≡ before.memory.room
