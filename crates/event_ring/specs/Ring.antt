-- The kept events (Docker Engine API v1.43, SystemEvents, since; own: the last 65,536 of all, numbered from 0).
use Rattle.std.specs.Prelude.{ℕ, ◌+◌, ◌-◌, ◌==◌, List, Bool, if◌then◌else◌, length, drop, nat_lt, nat_le}
use Rattle.std.specs.List.{position_or_len}
use Rattle.engine_text.specs.Lists.{last_of}
use Rattle.engine_text.specs.declared.event.Event.{Event}
use Rattle.event_ring.specs.declared.part.FromRing.{FromRing}
use Rattle.event_ring.specs.declared.part.FromRing.TheVariants as From

-- What a ring keeps: the last events, oldest first, and how many there were in all.
pub record Kept : Type 0 where
  pub events : List Event
  pub count : ℕ

-- So many are kept at most.
abbrev pub capacity : ℕ
capacity = 65536

-- What is kept of all events so far.
abbrev pub ring_of : List Event → Kept
ring_of all = record { events = last_of capacity all; count = length all }

-- The number of the first that is kept.
abbrev pub first_number : Kept → ℕ
first_number r = r.count - length r.events

-- The kept events from a number on.
abbrev pub events_from : ℕ → Kept → List Event
events_from n r = drop (n - first_number r) r.events

-- Lagged below the first kept number, up to date at the count, else the events.
abbrev pub from_number : ℕ → Kept → FromRing
from_number n r =
    if nat_lt n (first_number r) then From.Lagged n (first_number r)
    else (if n == r.count then From.UpToDate else From.Slice (events_from n r))

-- Whether an event is at or after the moment.
abbrev pub is_since : ℕ → Event → Bool
is_since moment e = nat_le moment e.moment

-- The least kept number whose event is at or after the moment, else the count.
abbrev pub number_at : ℕ → Kept → ℕ
number_at moment r = first_number r + position_or_len (is_since moment) r.events
