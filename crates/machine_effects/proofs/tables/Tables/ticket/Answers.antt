use Rattle.std.proofs.Common.{◌≡◌, ◌==◌, ap, ◌∙◌, subst}
use Rattle.std.specs.Prelude.{option_map, option_copied}
use Rattle.engine_text.specs.declared.ticket.Ticket.{Ticket}
use Rattle.machine_model.specs.Tickets.{ticket_numbered}
use Rattle.machine_tables.specs.Held.{ticket_in}
use Rattle.machine_events.specs.Memory.{Memory}
use Rattle.machine_model.proofs.ItemLemmas.{find_in_map}
use Rattle.machine_effects.proofs.tables.Tables.ticket.Goals as goal

pub returns : goal.returns
returns c =
    subst (λ (m : Memory). option_map (ticket_in m.state.seed) (option_copied c.numbered.result) ≡ ticket_numbered c.args.number m.state) c.self.view_is
    (ap (option_map (ticket_in c.self.inside.seed)) c.numbered.ensures ∙ find_in_map (λ (t : Ticket). t.number == c.args.number) (ticket_in c.self.inside.seed) c.self.inside.tickets.tickets)
