-- own: what stands in memory for a table of volumes. A reference holds the place of its volume, so that making one takes no memory.
use Rattle.std.specs.Prelude.{◌≡◌, ℕ, ◌+◌, ◌-◌, ◌<◌, ◌≤◌, List, [], length, map, All, Option, Some, None, vec_capacity, slice_get, slice_index_or, nat_le, nat_lt, if◌then◌else◌}
use Rattle.std.specs.Ordering.{nat_cmp}
use Rattle.std.specs.Cmp.Lexicographic.{slice_cmp}
use Rattle.std.specs.declared.cmp.Ordering.TheVariants.{Less, Greater}
use Rattle.std.specs.List.Sorted.{IsStrictlySortedBy}
use Rattle.engine_text.specs.declared.volume.Volume.{Volume}
use Rattle.engine_text.specs.declared.volume.VolumeUse.{VolumeUse}
use Rattle.volume_table.specs.declared.references.Reference.{Reference}
use Rattle.volume_table.specs.declared.volumes.Volumes.TheInside.{Inside}
use Rattle.volume_table.specs.Volumes.{VolumeTable, by_name, use_of}

-- the name of a volume that was found
abbrev pub name_of : Option Volume → List ℕ
name_of None = []
name_of (Some v) = v.name

-- the use that a reference means
abbrev pub use_in : List Volume → Reference → VolumeUse
use_in vs r = use_of (name_of (slice_get vs r.place)) r.container

-- the table that the vectors mean
abbrev pub table_inside : Inside → VolumeTable
table_inside t = record {
  volumes = t.volumes.items;
  uses = map (use_in t.volumes.items) t.references.items;
  room = vec_capacity t.volumes;
  use_room = vec_capacity t.references;
}

-- the reference's volume stands
abbrev pub IsWithin : List Volume → Reference → Type 0
IsWithin vs r = r.place < length vs

-- the volumes stand in byte order of names, and each reference's volume stands
pub record IsSoundTable (t : Inside) : Type 0 where
  pub ordered : IsStrictlySortedBy by_name t.volumes.items
  pub within : All (IsWithin t.volumes.items) t.references.items

-- no volume has that name, and one that had it would stand there
pub record IsGapFor (name : List ℕ) (vs : List Volume) (i : ℕ) : Type 0 where
  pub within : i ≤ length vs
  pub before : (k : ℕ) (d : Volume) → k < i → slice_cmp nat_cmp (slice_index_or vs k d).name name ≡ Less
  pub behind : (k : ℕ) (d : Volume) → i ≤ k → k < length vs → slice_cmp nat_cmp (slice_index_or vs k d).name name ≡ Greater

-- the reference, where the volumes from that place on go one place on
abbrev pub moved_up : ℕ → Reference → Reference
moved_up from r = record r { place = (if nat_le from r.place then r.place + 1 else r.place) }

-- the reference, where the volumes behind that place go one place back
abbrev pub moved_down : ℕ → Reference → Reference
moved_down from r = record r { place = (if nat_lt from r.place then r.place - 1 else r.place) }
