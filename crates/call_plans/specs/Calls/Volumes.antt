-- own: what the making and the removal of a volume need once its name is looked up.
use Rattle.std.specs.Prelude.{◌≡◌, ℕ, ◌<◌, List, false, None, IsSome, length}
use Rattle.machine_model.specs.State.{State}
use Rattle.machine_model.specs.Calls.Create.{volume_named}
use Rattle.machine_model.specs.Calls.Volumes.{is_in_use}
use Rattle.machine_events.specs.Memory.{Memory}

-- There is room for a volume more.
abbrev pub HasVolumeRoom : Memory → Type 0
HasVolumeRoom m = length m.state.volumes < m.volumes

-- The name is free, and there is room for its volume.
pub record CanMakeVolume (name : List ℕ) (m : Memory) : Type 0 where
  pub free : volume_named name m.state ≡ None
  pub room : HasVolumeRoom m

-- The volume stands, and no container refers to it.
pub record CanRemoveVolume (name : List ℕ) (s : State) : Type 0 where
  pub stands : IsSome (volume_named name s)
  pub unused : is_in_use name s ≡ false
