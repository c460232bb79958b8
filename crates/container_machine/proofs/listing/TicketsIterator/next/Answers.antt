use Rattle.std.proofs.Common.{ap, ◌∙◌}
use Rattle.std.specs.Prelude.{map, option_map}
use Rattle.std.proofs.lemmas.Option.{slice_get-map}
use Rattle.container_machine.specs.Listing.{ticket_pair}
use Rattle.container_machine.proofs.ListingLemmas.{drop_more}
use Rattle.container_machine.proofs.listing.TicketsIterator.next.Goals as goal

pub returns-clause-steps : goal.returns-clause-steps
returns-clause-steps c =
    let t = c.ticket_at-ticket.result.now in
    drop_more (map ticket_pair c.args.self.now.tables.now.state.tickets) c.args.self.now.place (t.number, t.connection)
    (slice_get-map ticket_pair c.args.self.now.tables.now.state.tickets c.args.self.now.place ∙ ap (option_map ticket_pair) c.ticket_at-ticket.ensures)
