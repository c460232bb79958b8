-- Which volumes a create makes (Docker Engine API v1.43, ContainerCreate; own: those of its mounts that don't stand).
use Rattle.std.specs.Prelude.{◌≡◌, ℕ, ◌+◌, ◌<◌, ◌≤◌, ◌^◌, length, map, filter, not, Bool, false, List, [], ◌∷◌, None, find}
use Rattle.std.specs.List.{AllByRecursion, fold}
use Rattle.container_table.specs.Tables.{named, with_id}
use Rattle.engine_text.specs.Texts.{same_bytes}
use Rattle.engine_text.specs.declared.container.Container.{Container}
use Rattle.engine_text.specs.declared.event.Action.TheVariants.{Create}
use Rattle.engine_text.specs.declared.event.Event.{Event}
use Rattle.engine_text.specs.declared.mounts.Mount.{Mount}
use Rattle.engine_text.specs.declared.volume.Volume.{Volume}
use Rattle.machine_model.specs.Calls.Create.{new_volume, placed}
use Rattle.machine_model.specs.Consistency.{AreDistinct, is_there}
use Rattle.machine_model.specs.EventTexts.{volume_event}
use Rattle.machine_events.specs.Memory.{Memory}

-- Whether a volume of that name stands.
abbrev pub stands : List Volume → List ℕ → Bool
stands vs name = is_there (find (λ v. same_bytes v.name name) vs)

-- Each of these names once.
abbrev pub once : List (List ℕ) → List (List ℕ)
once [] = []
once (name ∷ names) = name ∷ filter (λ n. not (same_bytes name n)) (once names)

-- The volumes of these mounts that don't stand, each once, made at a moment.
abbrev pub missing_volumes : ℕ → List Mount → List Volume → List Volume
missing_volumes moment ms vs =
    map (λ name. new_volume name [] moment) (once (filter (λ name. not (stands vs name)) (map (λ m. m.volume) ms)))

-- None of these stands, and no two have one name.
pub record AreMissing (made vs : List Volume) : Type 0 where
  pub fresh : AllByRecursion (λ v. stands vs v.name ≡ false) made
  pub apart : AreDistinct (map (λ v. v.name) made)

-- With these, each in its place by name.
abbrev pub with_volumes : List Volume → List Volume → List Volume
with_volumes made vs = fold (λ ws v. placed v ws) vs made

-- The event create of each of these.
abbrev pub told_volumes : List Volume → ℕ → List Event
told_volumes vs t = map (λ v. volume_event Create v.name t) vs

-- ---- what a new container needs

-- There is room for a container more with so many mounts.
pub record HasAddRoom (mounts : ℕ) (m : Memory) : Type 0 where
  pub place : length m.state.containers < m.containers
  pub volumes : length m.state.volumes + mounts ≤ m.volumes
  pub uses : length m.state.uses + mounts ≤ m.uses

-- The container may be added, these being the volumes that it makes: its number is above those of all, its id and its name are new.
pub record CanAdd (c : Container) (made : List Volume) (m : Memory) : Type 0 where
  pub room : HasAddRoom (length c.life.mounts) m
  pub volumes : made ≡ missing_volumes m.state.clock c.life.mounts m.state.volumes
  pub number : m.state.next_number < 2 ^ 63
  pub above : AllByRecursion (λ d. d.number < c.number) m.state.containers
  pub id : with_id c.id m.state.containers ≡ None
  pub name : named c.name m.state.containers ≡ None
