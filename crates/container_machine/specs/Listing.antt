-- What is left of a walk over the containers, and of one over the tickets (own: in order of creation, and of number).
use Rattle.std.specs.Prelude.{ℕ, List, drop, map}
use Rattle.std.specs.Borrow.{Bor}
use Rattle.engine_text.specs.declared.container.Container.{Container}
use Rattle.engine_text.specs.declared.ticket.Ticket.{Ticket}
use Rattle.container_table.specs.declared.held.Held.{Held}
use Rattle.container_table.specs.Logs.{container_in}
use Rattle.container_machine.specs.declared.listing.Listing.{Listing}
use Rattle.container_machine.specs.declared.listing.Tickets.{Tickets}

-- A container that is lent, with its log.
abbrev pub seen_container : Bor Held → Container
seen_container held = container_in held.now

-- The containers that are left.
abbrev pub containers_left : Listing → List Container
containers_left l = drop l.place l.tables.now.state.containers

-- A ticket's number, and the connection that it is of.
abbrev pub ticket_pair : Ticket → ℕ × ℕ
ticket_pair t = (t.number, t.connection)

-- The tickets that are left.
abbrev pub tickets_left : Tickets → List (ℕ × ℕ)
tickets_left t = drop t.place (map ticket_pair t.tables.now.state.tickets)
