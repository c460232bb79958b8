-- own: what a create brings once its name is found to be free.
use Rattle.std.specs.Prelude.{◌≡◌, ℕ, List, None}
use Rattle.engine_text.specs.Id.{id_of}
use Rattle.engine_text.specs.declared.container.Container.{Container}
use Rattle.engine_text.specs.declared.volume.Volume.{Volume}
use Rattle.machine_model.specs.Names.{holder}
use Rattle.machine_model.specs.State.{State}
use Rattle.machine_events.specs.NewVolumes.{missing_volumes}

-- The container with the next number, its id and a free name, and the volumes that it makes at the moment.
pub record IsNew (c : Container) (made : List Volume) (t : ℕ) (s : State) : Type 0 where
  pub number : c.number ≡ s.next_number
  pub id : c.id ≡ id_of s.seed s.next_number
  pub name : holder c.name s.containers ≡ None
  pub volumes : made ≡ missing_volumes t c.life.mounts s.volumes
