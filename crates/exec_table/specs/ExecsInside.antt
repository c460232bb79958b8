-- What stands inside of a table of execs (own).
use Rattle.std.specs.Prelude.{◌≡◌, ℕ, ◌==◌, ◌-◌, ◌≤◌, ◌&&◌, ◌||◌, nat_lt, min, Bool, false, List, [], Option, Some, None, map, take, drop, length}
use Rattle.std.specs.List.{AllByRecursion}
use Rattle.std.specs.List.Sorted.{IsStrictlySortedBy}
use Rattle.std.specs.Ordering.{nat_cmp, is_lt}
use Rattle.std.specs.Cmp.Lexicographic.{slice_cmp}
use Rattle.std.specs.declared.cmp.Ordering.{Ordering}
use Rattle.engine_text.specs.Texts.{same_bytes}
use Rattle.engine_text.specs.declared.exec.Exec.{Exec}
use Rattle.engine_text.specs.declared.log.OwnedLog.{OwnedLog}
use Rattle.engine_text.specs.declared.owner.Owner.TheVariants.{Exec as OfExec}
use Rattle.container_table.specs.Order.{in_order, AreApart}
use Rattle.exec_table.specs.Execs.{ExecTable, exec_numbered}
use Rattle.exec_table.specs.declared.execs.Execs.TheInside.{Inside}
use Rattle.exec_table.specs.declared.listing.ExecList.TheInside.{Inside as InsideList}
use Rattle.exec_table.specs.declared.row.Owned.{Owned}
use Rattle.exec_table.specs.declared.row.Row.{Row}

-- The execs of these rows.
abbrev pub execs_in : List Row → List Exec
execs_in rows = map (λ r. r.exec) rows

-- A row's output.
abbrev pub output_in : Row → OwnedLog
output_in r = record { owner = OfExec r.exec.number; log = r.log.records }

-- The outputs of these rows.
abbrev pub outputs_in : List Row → List OwnedLog
outputs_in rows = map output_in rows

-- How many more records a row's output has room for.
abbrev pub room_in : Row → ℕ
room_in r = r.log.room

-- The order of rows is that of their execs' numbers.
abbrev pub by_row : Row → Row → Ordering
by_row r s = nat_cmp r.exec.number s.exec.number

-- Whether an exec's id comes before another's, in byte order.
abbrev pub is_id_before : Exec → Exec → Bool
is_id_before x y = is_lt (slice_cmp nat_cmp x.id y.id)

-- The execs in order of id.
abbrev pub sorted_by_id : List Exec → List Exec
sorted_by_id xs = in_order is_id_before xs

-- These are the execs' numbers in order of id, and no two have one id.
pub record IsIndex (xs : List Exec) (ids : List ℕ) : Type 0 where
  pub apart : AreApart is_id_before xs
  pub is : ids ≡ map (λ x. x.number) (sorted_by_id xs)

-- The id of what is found.
abbrev pub found_id : Option Exec → List ℕ
found_id None = []
found_id (Some x) = x.id

-- How the id of the exec with that number compares to an id.
abbrev pub id_order : List Exec → List ℕ → ℕ → Ordering
id_order xs id n = slice_cmp nat_cmp (found_id (exec_numbered n xs)) id

-- No exec has that id.
abbrev pub IsFresh : List ℕ → List Exec → Type 0
IsFresh id xs = AllByRecursion (λ x. same_bytes x.id id ≡ false) xs

-- An exec's number beside that of its container.
abbrev pub owned_as : Exec → Owned
owned_as x = record { container = x.container; number = x.number }

-- Whether an exec's container comes before another's or, in one container, its number does.
abbrev pub is_owned_before : Exec → Exec → Bool
is_owned_before x y = nat_lt x.container y.container || (x.container == y.container && nat_lt x.number y.number)

-- The execs in order of container and number.
abbrev pub sorted_by_owner : List Exec → List Exec
sorted_by_owner xs = in_order is_owned_before xs

-- The execs' numbers beside their containers', in that order.
abbrev pub owned_in : List Exec → List Owned
owned_in xs = map owned_as (sorted_by_owner xs)

-- Whether an exec of container k stands ahead of those of container c or, with these, of what comes behind them.
abbrev pub is_ahead : Bool → ℕ → ℕ → Bool
is_ahead with c k = nat_lt k c || (with && k == c)

-- The table that the rows mean: execs with their outputs, and for how many there is memory.
abbrev pub table_inside : Inside → ExecTable
table_inside t = record {
  execs = execs_in t.rows.items;
  outputs = outputs_in t.rows.items;
  rooms = map room_in t.rows.items;
  places = min t.rows.places (min t.ids.places t.owned.places);
}

-- The rows stand in order of number, and both indexes are theirs.
pub record IsSound (t : Inside) : Type 0 where
  pub order : IsStrictlySortedBy by_row t.rows.items
  pub ids : IsIndex (execs_in t.rows.items) t.ids.items
  pub owned : t.owned.items ≡ owned_in (execs_in t.rows.items)

-- The execs from one place of the order of containers to another.
abbrev pub execs_between : InsideList → List Exec
execs_between l = take (l.until - l.from) (drop l.from (sorted_by_owner (execs_in l.rows.now.items)))

-- The rows stand in order of number, and the index, which has so many places, is theirs.
pub record IsListed (l : InsideList) : Type 0 where
  pub order : IsStrictlySortedBy by_row l.rows.now.items
  pub owned : l.owned.now.items ≡ owned_in (execs_in l.rows.now.items)
  pub bound : l.until ≤ length l.owned.now.items
