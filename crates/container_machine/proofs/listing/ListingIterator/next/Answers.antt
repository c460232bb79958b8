use Rattle.container_machine.specs.Listing.{seen_container}
use Rattle.container_machine.proofs.ListingLemmas.{drop_more}
use Rattle.container_machine.proofs.listing.ListingIterator.next.Goals as goal

pub returns-clause-steps : goal.returns-clause-steps
returns-clause-steps c =
    drop_more c.args.self.now.tables.now.state.containers c.args.self.now.place (seen_container c.container_at-held.result) c.container_at-held.ensures
