use Rattle.std.proofs.Common.{sym}
use Rattle.container_table.specs.Held.{contents}
use Rattle.container_table.proofs.HeldLemmas.{none_numbered}
use Rattle.container_table.proofs.entries.numbered_in.Goals as goal

pub returns-in-Err : goal.returns-in-Err
returns-in-Err c = sym (none_numbered c.args.number (contents c.args.held.now.list.items) c.in-Err.field-0 c.in-Err.ensures.place)
