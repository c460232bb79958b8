use Rattle.std.proofs.Common.{◌-◌, ◌<◌, List, length, get_or, subst}
use Rattle.machine_tables.specs.declared.held.HeldTicket.{HeldTicket}
use Rattle.machine_tables.proofs.RisingLemmas.{rises_push}
use Rattle.machine_tables.proofs.tickets.Tickets.add.Goals as goal

pub invariant_of-self : goal.invariant_of-self
invariant_of-self c = λ rises.
    rw c.push_reserved.ensures.items (rises_push c.self.inside.items.items c.args.ticket (c.self.invariant (c.rises_on-self-inside.ensures.before rises))
    (subst (λ (xs : List HeldTicket). (d : HeldTicket) → 0 < length xs → (get_or xs (length xs - 1) d).number < c.args.ticket.number) c.as_slice.ensures.value
    (c.rises_on-self-inside.ensures.on rises)))
