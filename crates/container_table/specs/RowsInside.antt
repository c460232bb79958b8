-- What stands inside of rows (own).
use Rattle.std.specs.Prelude.{◌≡◌, ◌*◌, ◌^◌, ◌<◌, length, vec_len}
use Rattle.container_table.specs.Rows.{Listed, row_length, joined, AreRows}
use Rattle.container_table.specs.declared.rows.Rows.TheInside.{Inside}

-- The items, and for how many the rows have memory.
abbrev pub listed_of : {T : Type 0} → Inside T → Listed T
listed_of a = record { items = joined a.rows.items; places = row_length * vec_len a.rows }

-- The rows are such rows, their items are counted, and all places have numbers.
pub record IsFilled {T : Type 0} (a : Inside T) : Type 0 where
  pub rows : AreRows a.rows.items
  pub few : vec_len a.rows < 2 ^ 53
  pub counted : a.len ≡ length (joined a.rows.items)
