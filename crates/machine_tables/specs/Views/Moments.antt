-- own: the fields of the kept moments as what they mean.
use Rattle.std.specs.Prelude.{◌≡◌, ℕ, ◌-◌, ◌≤◌, List, Bool, true, Option, length, nat_le, slice_get}
use Rattle.std.specs.List.Sorted.{IsNonDecreasing}
use Rattle.std.specs.Option.{option_map_or}
use Rattle.std.specs.VecDeque.{deque_capacity}
use Rattle.machine_model.specs.declared.limits.TheConstants.{KEPT_EVENTS}
use Rattle.machine_tables.specs.Values.Moments.{MomentRows}
use Rattle.machine_tables.specs.declared.moments.Moments.TheInside.{Inside}

-- The moments.
abbrev pub moment_rows : Inside → MomentRows
moment_rows m = record { moments = m.items.items; room = deque_capacity m.items }

-- Whether the last of these moments lies at or before that one, or there is none.
abbrev pub is_until_last : ℕ → List ℕ → Bool
is_until_last moment ms = option_map_or (λ m. nat_le m moment) (slice_get ms (length ms - 1)) true

-- Whether the moment that was found lies at or after that one, or there is none.
abbrev pub is_since_there : ℕ → Option ℕ → Bool
is_since_there moment found = option_map_or (nat_le moment) found true

-- No more of them stand than are kept, and they are in order where this is noted.
pub record AreSoundMoments (m : Inside) : Type 0 where
  pub few : length m.items.items ≤ KEPT_EVENTS
  pub ordered : m.in_order ≡ true → IsNonDecreasing m.items.items
