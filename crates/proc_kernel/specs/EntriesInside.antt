-- own: the two tables of rows as the owners that they mean.
use Rattle.std.specs.Prelude.{◌-◌, map, min, vec_len, vec_capacity}
use Rattle.proc_kernel.specs.declared.entries.Entries.TheInside.{Inside}
use Rattle.proc_kernel.specs.Entries.{EntryList, AreEntries}

-- The owners in order of turn, and the places behind both tables.
abbrev pub entries_inside : Inside → EntryList
entries_inside s = record {
  owners = map (λ r. r.owner) s.by_turn.items;
  room = min (vec_capacity s.by_turn - vec_len s.by_turn) (vec_capacity s.by_owner - vec_len s.by_owner);
}

-- The tables are sound.
abbrev pub AreSoundEntries : Inside → Type 0
AreSoundEntries s = AreEntries s.turn s.by_turn.items s.by_owner.items
