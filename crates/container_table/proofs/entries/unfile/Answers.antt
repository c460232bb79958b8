use Rattle.container_table.specs.Held.{contents}
use Rattle.container_table.specs.Logs.{container_in}
use Rattle.container_table.proofs.IndexLemmas.{unfiled, held_below}
use Rattle.container_table.proofs.entries.unfile.Goals as goal

pub returns-in-Ok-clause-index : goal.returns-in-Ok-clause-index
returns-in-Ok-clause-index c =
    unfiled c.args.key (contents c.args.held.now.list.items) c.args.number (container_in c.args.one.now) c.args.entries.now.items c.remove.new.self.items c.in-Ok.i c.requires.boxed.order c.requires.index c.requires.held
    (rw c.text_of.ensures at c.in-Ok.ensures.place) c.remove.ensures.items

pub returns-in_default-clause-index : goal.returns-in_default-clause-index
returns-in_default-clause-index c =
    absurd (held_below c.args.key (contents c.args.held.now.list.items) c.args.number (container_in c.args.one.now) c.in_default.field-0 c.requires.held (rw c.text_of.ensures at c.in_default.ensures.place))

pub returns-in_default-clause-len : goal.returns-in_default-clause-len
returns-in_default-clause-len c =
    absurd (held_below c.args.key (contents c.args.held.now.list.items) c.args.number (container_in c.args.one.now) c.in_default.field-0 c.requires.held (rw c.text_of.ensures at c.in_default.ensures.place))
