-- What stands inside of a table (own).
use Rattle.std.specs.Prelude.{◌≡◌, ℕ, ◌+◌, ◌≤◌, length, vec_len, vec_capacity}
use Rattle.container_table.specs.Tables.{Holdings}
use Rattle.container_table.specs.Held.{contents, rooms_of, IsBoxed, IsIndex}
use Rattle.container_table.specs.declared.entries.Key.TheVariants.{Id, Name}
use Rattle.container_table.specs.declared.table.Table.TheInside.{Inside}

-- For how many containers there are boxes.
abbrev pub boxes : Inside → ℕ
boxes a = length a.boxes.list.items + vec_len a.spare

-- The containers with the room of their logs, the timers, and for how many of each there is memory.
abbrev pub holdings_of : Inside → Holdings
holdings_of a = record {
  containers = contents a.boxes.list.items;
  logs = rooms_of a.boxes.list.items;
  timers = a.timers.timers;
  places = boxes a;
  timer_places = a.timers.places;
}

-- Numbers rise, both indexes are right, and each list has room for a place of each box.
pub record IsKept (a : Inside) : Type 0 where
  pub boxed : IsBoxed a.boxes
  pub ids : IsIndex Id (contents a.boxes.list.items) a.ids.items
  pub names : IsIndex Name (contents a.boxes.list.items) a.names.items
  pub numbers_len : length a.boxes.numbers.items ≡ length a.boxes.list.items
  pub ids_len : length a.ids.items ≡ length a.boxes.list.items
  pub names_len : length a.names.items ≡ length a.boxes.list.items
  pub list_room : boxes a ≤ a.boxes.list.places
  pub numbers_room : boxes a ≤ a.boxes.numbers.places
  pub spare_room : boxes a ≤ vec_capacity a.spare
  pub ids_room : boxes a ≤ a.ids.places
  pub names_room : boxes a ≤ a.names.places
