use Rattle.std.proofs.Common.{◌==◌, List, ap, ◌∙◌}
use Rattle.engine_text.specs.declared.ticket.Ticket.{Ticket}
use Rattle.machine_model.specs.State.{State}
use Rattle.machine_model.specs.Calls.Take.{end_ticket}
use Rattle.machine_tables.specs.Held.{ticket_in, tickets_in}
use Rattle.machine_events.specs.Memory.{Memory}
use Rattle.machine_effects.specs.Views.Tables.{state_of}
use Rattle.machine_tables.specs.declared.held.HeldTicket.{HeldTicket}
use Rattle.machine_model.proofs.RemoveLemmas.{removed_mapped}
use Rattle.machine_effects.proofs.tables.Tables.end_ticket.Goals as goal

pub returns-clause-state : goal.returns-clause-state
returns-clause-state c =
    let s : State = state_of c.self.inside in
    ap (λ (l : List HeldTicket). record s { tickets = tickets_in c.self.inside.seed l }) c.remove.ensures.tickets
    ∙ (ap (λ (ts : List Ticket). record s { tickets = ts }) (removed_mapped (ticket_in c.self.inside.seed) (λ (t : Ticket). t.number == c.args.number) c.self.inside.tickets.tickets)
    ∙ ap (λ (m : Memory). end_ticket c.args.number m.state) c.self.view_is)
