use Rattle.std.proofs.Common.{◌≡◌, ◌<◌, ◌∙◌, Some, ap, length, subst, sym}
use Rattle.std.specs.Prelude.{option_map, slice_get}
use Rattle.std.proofs.lemmas.List.{length-map}
use Rattle.std.proofs.lemmas.Option.{slice_get-map}
use Rattle.machine_tables.specs.Held.{ticket_in}
use Rattle.machine_events.specs.Memory.{Memory}
use Rattle.machine_effects.proofs.tables.Tables.ticket_at.Goals as goal

pub at-requires : goal.at-requires
at-requires c =
    subst (λ n. c.args.place < n) (length-map c.self.inside.tickets.tickets (ticket_in c.self.inside.seed))
    (subst (λ (m : Memory). c.args.place < length m.state.tickets) (sym c.self.view_is) c.requires)

pub returns : goal.returns
returns c =
    subst (λ (m : Memory). slice_get m.state.tickets c.args.place ≡ Some (ticket_in m.state.seed c.at.result.now)) c.self.view_is
    (slice_get-map (ticket_in c.self.inside.seed) c.self.inside.tickets.tickets c.args.place ∙ ap (option_map (ticket_in c.self.inside.seed)) c.at.ensures)
