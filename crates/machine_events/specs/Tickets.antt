-- own: what the begin of a ticket needs.
use Rattle.std.specs.Prelude.{◌<◌, ◌^◌, length}
use Rattle.machine_events.specs.Memory.{Memory}

-- There is room for a ticket more, and its number can be counted.
pub record CanBegin (m : Memory) : Type 0 where
  pub room : length m.state.tickets < m.room.tickets
  pub number : m.state.next_ticket < 2 ^ 63
