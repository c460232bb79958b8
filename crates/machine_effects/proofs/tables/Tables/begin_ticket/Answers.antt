use Rattle.std.proofs.Common.{◌+◌, List, None, ap, ◌∙◌}
use Rattle.engine_text.specs.declared.ticket.Ticket.{Ticket}
use Rattle.machine_model.specs.State.{State}
use Rattle.machine_model.specs.Tickets.{begun}
use Rattle.machine_tables.specs.Held.{tickets_in}
use Rattle.machine_events.specs.Memory.{Memory}
use Rattle.machine_effects.specs.Views.Tables.{state_of}
use Rattle.machine_tables.specs.declared.held.HeldTicket.{HeldTicket}
use Rattle.machine_tables.proofs.TicketLemmas.{one_more}
use Rattle.machine_effects.proofs.tables.Tables.begin_ticket.Goals as goal

pub returns-clause-state : goal.returns-clause-state
returns-clause-state c =
    let s : State = state_of c.self.inside in
    let t : HeldTicket = record { number = c.self.inside.next_ticket; connection = c.args.connection; container = c.args.container; asked = c.args.asked; ready = None } in
    ap (λ (l : List HeldTicket). record s { tickets = tickets_in c.self.inside.seed l; next_ticket = s.next_ticket + 1 }) c.add.ensures.tickets
    ∙ (ap (λ (ts : List Ticket). record s { tickets = ts; next_ticket = s.next_ticket + 1 }) (one_more c.self.inside.seed t c.self.inside.tickets.tickets)
    ∙ ap (λ (m : Memory). begun c.args.connection c.args.container c.args.asked m.state) c.self.view_is)
