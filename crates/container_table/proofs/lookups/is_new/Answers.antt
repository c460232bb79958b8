use Rattle.std.proofs.Common.{◌∙◌}
use Rattle.container_table.specs.Held.{contents}
use Rattle.container_table.proofs.PrefixLemmas.{new_is}
use Rattle.container_table.proofs.lookups.is_new.Goals as goal

pub returns : goal.returns
returns c = c.is_err.ensures.value ∙ new_is c.args.key (contents c.args.held.now.list.items) c.args.text.now c.args.entries.now.items c.locate.result c.requires.boxed.order c.requires.index c.locate.ensures.place
