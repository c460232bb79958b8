-- own: what a removal needs.
use Rattle.std.specs.Prelude.{◌<◌, length}
use Rattle.machine_events.specs.Memory.{Memory}

-- There is room for one removal more, and for what is kept of it.
pub record HasRemovalRoom (m : Memory) : Type 0 where
  pub removed : length m.state.removed < m.room.removed
  pub kept : length m.state.kept < m.room.kept
