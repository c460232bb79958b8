-- Volumes by name, and the containers that refer to them (Docker Engine API v1.43, VolumeCreate, VolumeInspect, VolumeDelete; own: in byte order of names, and the room).
use Rattle.std.specs.Prelude.{ℕ, ◌==◌, List, [], ◌∷◌, Bool, true, false, not, Option, Some, None, find, filter}
use Rattle.std.specs.List.{list_any}
use Rattle.std.specs.Ordering.{nat_cmp, match_ordering}
use Rattle.std.specs.Cmp.Lexicographic.{slice_cmp}
use Rattle.std.specs.declared.cmp.Ordering.{Ordering}
use Rattle.engine_text.specs.Texts.{same_bytes}
use Rattle.engine_text.specs.Lists.{remove_first}
use Rattle.engine_text.specs.declared.pairs.Pair.{Pair}
use Rattle.engine_text.specs.declared.volume.Volume.{Volume}
use Rattle.engine_text.specs.declared.volume.VolumeUse.{VolumeUse}
use Rattle.volume_table.specs.declared.answers.Made.{Made}
use Rattle.volume_table.specs.declared.answers.Removed.{Removed}

-- A table: its volumes in byte order of names, which container refers to which in order of creation, and how many
-- volumes and how many references it has room for.
pub record VolumeTable : Type 0 where
  pub volumes : List Volume
  pub uses : List VolumeUse
  pub room : ℕ
  pub use_room : ℕ

-- ---- volumes

-- The order of volumes is the byte order of their names.
abbrev pub by_name : Volume → Volume → Ordering
by_name v w = slice_cmp nat_cmp v.name w.name

-- Whether the volume has that name.
abbrev pub is_named : List ℕ → Volume → Bool
is_named name v = same_bytes v.name name

-- The volume with that name.
abbrev pub volume_named : List ℕ → List Volume → Option Volume
volume_named name vs = find (is_named name) vs

-- A volume that is made at a moment.
abbrev pub new_volume : List ℕ → List Pair → ℕ → Volume
new_volume name labels moment = record { name = name; labels = labels; created = moment }

-- With the volume, in byte order of names.
abbrev pub placed : Volume → List Volume → List Volume
placed v [] = v ∷ []
placed v (w ∷ ws) = match_ordering (by_name v w) (v ∷ w ∷ ws) (v ∷ w ∷ ws) (w ∷ placed v ws)

-- ---- creation

-- A volume is made where none stands under its name.
abbrev pub creation : Option Volume → Made
creation None = Made.New
creation (Some v) = Made.Stood

-- The volumes after a creation: one that stood stays as it is.
abbrev pub after_creation : Made → Volume → List Volume → List Volume
after_creation Made.New v vs = placed v vs
after_creation Made.Stood v vs = vs

-- ---- references and removal

-- A container's reference to the volume of that name.
abbrev pub use_of : List ℕ → ℕ → VolumeUse
use_of name container = record { volume = name; container = container }

-- Whether a container refers to the volume of that name.
abbrev pub is_in_use : List ℕ → List VolumeUse → Bool
is_in_use name us = list_any (λ u. same_bytes u.volume name) us

-- The references without those of a container.
abbrev pub released : ℕ → List VolumeUse → List VolumeUse
released container us = filter (λ u. not (u.container == container)) us

-- A volume that stands is removed unless it is in use.
abbrev pub removal : Option Volume → Bool → Removed
removal None in_use = Removed.Missing
removal (Some v) true = Removed.InUse
removal (Some v) false = Removed.Ok

-- The volumes after a removal.
abbrev pub after_removal : Removed → List ℕ → List Volume → List Volume
after_removal Removed.Ok name vs = remove_first (is_named name) vs
after_removal Removed.Missing name vs = vs
after_removal Removed.InUse name vs = vs
