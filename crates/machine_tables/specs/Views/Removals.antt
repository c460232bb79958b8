-- own: the fields of what is kept of removed containers as what they mean.
use Rattle.std.specs.Prelude.{vec_capacity}
use Rattle.machine_tables.specs.Values.Removals.{RemovalRows}
use Rattle.machine_tables.specs.declared.removals.Removals.TheInside.{Inside}

-- The removals and the kept logs.
abbrev pub removal_rows : Inside → RemovalRows
removal_rows m = record {
  removed = m.numbers.items;
  kept = m.logs.items;
  removed_room = vec_capacity m.numbers;
  kept_room = vec_capacity m.logs;
}
