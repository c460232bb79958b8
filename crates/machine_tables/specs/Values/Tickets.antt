-- own: the tickets, as contracts see their table.
use Rattle.std.specs.Prelude.{ℕ, List}
use Rattle.machine_tables.specs.declared.held.HeldTicket.{HeldTicket}

-- The tickets in order of number, and how many may stand.
pub record TicketRows : Type 0 where
  pub tickets : List HeldTicket
  pub room : ℕ
