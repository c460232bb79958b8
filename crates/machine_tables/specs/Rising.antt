-- own: tickets by their numbers, which mostly rise.
use Rattle.std.specs.Prelude.{IsTrue}
use Rattle.std.specs.List.Sorted.{IsStrictlySortedBy}
use Rattle.std.specs.Ordering.{nat_cmp}
use Rattle.std.specs.declared.cmp.Ordering.{Ordering}
use Rattle.machine_tables.specs.declared.held.HeldTicket.{HeldTicket}
use Rattle.machine_tables.specs.declared.tickets.Tickets.TheInside.{Inside}

-- the order of tickets by number
abbrev pub by_number : HeldTicket → HeldTicket → Ordering
by_number a b = nat_cmp a.number b.number

-- where it is told that they rise, they do
abbrev pub Rises : Inside → Type 0
Rises m = IsTrue m.rises → IsStrictlySortedBy by_number m.items.items
