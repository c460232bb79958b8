use Rattle.std.proofs.Common.{◌<◌, ◌∙◌, ap, sym, subst, length, List, refl}
use Rattle.machine_tables.specs.Places.{at_place}
use Rattle.machine_tables.specs.Values.Tickets.{TicketRows}
use Rattle.machine_tables.specs.declared.held.HeldTicket.{HeldTicket}
use Rattle.machine_tables.proofs.TicketLemmas.{set_at_place}
use Rattle.machine_tables.proofs.RisingLemmas.{rises_placed}
use Rattle.std.specs.List.Sorted.{IsStrictlySortedBy}
use Rattle.machine_tables.specs.Rising.{by_number}
use Rattle.machine_tables.proofs.tickets.Tickets.put.Goals as goal

pub returns-clause-tickets : goal.returns-clause-tickets
returns-clause-tickets c =
    let low : c.args.place < length c.self.inside.items.items = subst (λ (r : TicketRows). c.args.place < length r.tickets) (sym c.self.view_is) c.requires in
    set_at_place (λ (t : HeldTicket). record t { ready = c.args.ready }) c.self.inside.items.items c.args.place c.index_mut-t.result.now _ low (ap (λ (t : HeldTicket). record t { ready = c.args.ready }) c.index_mut-t.ensures.value)
    ∙ ap (λ (r : TicketRows). at_place (λ (t : HeldTicket). record t { ready = c.args.ready }) c.args.place r.tickets) c.self.view_is

pub invariant_of-self : goal.invariant_of-self
invariant_of-self c = λ rises.
    let f = λ (t : HeldTicket). record t { ready = c.args.ready } in
    let low : c.args.place < length c.self.inside.items.items = subst (λ (r : TicketRows). c.args.place < length r.tickets) (sym c.self.view_is) c.requires in
    subst (λ (xs : List HeldTicket). IsStrictlySortedBy by_number xs)
    (sym (set_at_place f c.self.inside.items.items c.args.place c.index_mut-t.result.now _ low (ap f c.index_mut-t.ensures.value)))
    (rises_placed f (λ x. refl) c.args.place c.self.inside.items.items (c.self.invariant rises))
