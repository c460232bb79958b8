-- What stands inside of a table's timers (own).
use Rattle.std.specs.Prelude.{◌≡◌, min, vec_len, vec_capacity}
use Rattle.container_table.specs.Tables.{Timed}
use Rattle.container_table.specs.Timers.{is_before, is_listed_before}
use Rattle.container_table.specs.Order.{in_order, IsInOrder}
use Rattle.container_table.specs.declared.timers.Timers.TheInside.{Inside}

-- The timers by rank and number, and for how many there is memory.
abbrev pub timed_of : Inside → Timed
timed_of a = record { timers = a.listed.items; places = min (vec_capacity a.listed) (vec_capacity a.due) }

-- Both vectors have the same timers, each in its order.
pub record IsTimed (a : Inside) : Type 0 where
  pub listed : IsInOrder is_listed_before a.listed.items
  pub due : a.due.items ≡ in_order is_before a.listed.items
  pub len : vec_len a.due ≡ vec_len a.listed
