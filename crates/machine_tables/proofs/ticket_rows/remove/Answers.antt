use Rattle.std.proofs.Common.{◌==◌, None, sym, ◌∙◌}
use Rattle.engine_text.specs.declared.ticket.Asked.{Asked}
use Rattle.machine_tables.specs.declared.held.HeldTicket.{HeldTicket}
use Rattle.machine_model.proofs.RemoveLemmas.{removed, removed_nowhere}
use Rattle.machine_tables.proofs.ticket_rows.remove.Goals as goal

nothing : HeldTicket
nothing = record { number = 0; connection = 0; container = 0; asked = Asked.Stop; ready = None }

pub returns-in-Some-clause-items : goal.returns-in-Some-clause-items
returns-in-Some-clause-items c = c.remove-gone.ensures.items ∙ removed (λ (t : HeldTicket). t.number == c.args.number) nothing c.args.tickets.now.items c.in-Some.i (rw (← c.as_slice.ensures.value) (sym c.place_of.ensures ∙ c.in-Some.is))

pub returns-in_default-clause-items : goal.returns-in_default-clause-items
returns-in_default-clause-items c = removed_nowhere (λ (t : HeldTicket). t.number == c.args.number) c.args.tickets.now.items (rw (← c.as_slice.ensures.value) (sym c.place_of.ensures ∙ c.in_default.is))
