use Rattle.exec_table.proofs.OwnerLemmas.{owned_rise, between_owned}
use Rattle.exec_table.proofs.listing.ExecList.of.Goals as goal

pub start_of-requires : goal.start_of-requires
start_of-requires c = owned_rise c.args.rows.now.items c.args.owned.now.items c.requires.order c.requires.index

pub end_of-requires : goal.end_of-requires
end_of-requires c = owned_rise c.args.rows.now.items c.args.owned.now.items c.requires.order c.requires.index

pub returns : goal.returns
returns c =
    between_owned c.args.container c.args.rows.now.items c.args.owned.now.items c.start_of.result c.end_of.result c.requires.order c.requires.index c.start_of.ensures.place c.end_of.ensures.place
