use Rattle.container_table.specs.Held.{contents}
use Rattle.container_table.proofs.HeldLemmas.{located, index_rises}
use Rattle.container_table.proofs.entries.locate.Goals as goal

pub locate_between-requires-clause-rises : goal.locate_between-requires-clause-rises
locate_between-requires-clause-rises c = index_rises c.args.key (contents c.args.held.now.list.items) c.args.text.now c.args.entries.now.items c.requires.boxed.order c.requires.index

pub returns-clause-place : goal.returns-clause-place
returns-clause-place c =
    located c.args.key (contents c.args.held.now.list.items) c.args.text.now c.args.entries.now.items c.locate_between.result c.requires.boxed.order c.requires.index
    c.locate_between.ensures.bound c.locate_between.ensures.place
