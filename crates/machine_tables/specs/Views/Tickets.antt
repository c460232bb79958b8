-- own: the fields of the tickets' table as what they mean.
use Rattle.std.specs.Prelude.{vec_capacity}
use Rattle.machine_tables.specs.Values.Tickets.{TicketRows}
use Rattle.machine_tables.specs.declared.tickets.Tickets.TheInside.{Inside}

-- The tickets.
abbrev pub ticket_rows : Inside → TicketRows
ticket_rows m = record { tickets = m.items.items; room = vec_capacity m.items }
