use Rattle.std.proofs.Common.{ap}
use Rattle.container_table.specs.Tables.{Holdings}
use Rattle.container_table.specs.Held.{contents}
use Rattle.container_table.proofs.BoxLemmas.{unnumbered, fits_none, no_less_itself}
use Rattle.container_table.proofs.table.Table.reserve_record.Goals as goal

pub returns-in-Err-clause-ok : goal.returns-in-Err-clause-ok
returns-in-Err-clause-ok c = fits_none c.args.number c.args.self.now.containers c.args.self.now.logs (unnumbered c.args.number (contents c.self.inside.boxes.list.items) c.args.self.now.containers c.in-Err.field-0 (ap (λ (k : Holdings). k.containers) c.self.view_is) c.in-Err.ensures.place)

pub returns-in-Err-clause-logs : goal.returns-in-Err-clause-logs
returns-in-Err-clause-logs c = no_less_itself c.args.self.now.logs
