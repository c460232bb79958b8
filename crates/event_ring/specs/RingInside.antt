-- own: what stands in memory for a ring, for what it lends, and for an event with its line.
use Rattle.std.specs.Prelude.{◌≡◌, ℕ, ◌^◌, ◌≤◌, List, Bool, true, length, min, nat_le, Option, Some, None}
use Rattle.std.specs.List.Sorted.{IsNonDecreasingBy}
use Rattle.engine_text.specs.declared.event.Event.{Event}
use Rattle.event_ring.specs.declared.ring.Ring.TheInside.{Inside}
use Rattle.event_ring.specs.Ring.{Kept, capacity, is_since}

-- what a ring keeps
abbrev pub kept_inside : Inside → Kept
kept_inside r = record { events = r.kept.items; count = r.count }

-- no event lies before an earlier one
abbrev pub AreInOrder : List Event → Type 0
AreInOrder events = IsNonDecreasingBy (λ e. e.moment) events

-- the last events are kept, and they are in order where this is noted
pub record IsSoundRing (r : Inside) : Type 0 where
  pub sized : r.kept.capacity ≡ capacity
  pub last : length r.kept.items ≡ min r.count capacity
  pub few : r.count ≤ 2 ^ 63
  pub ordered : r.in_order ≡ true → AreInOrder r.kept.items

-- the event there is at or after the moment, or there is none
abbrev pub is_since_there : ℕ → Option Event → Bool
is_since_there moment None = true
is_since_there moment (Some e) = is_since moment e

-- the event there is at or before the moment, or there is none
abbrev pub is_until_there : ℕ → Option Event → Bool
is_until_there moment None = true
is_until_there moment (Some e) = nat_le e.moment moment
