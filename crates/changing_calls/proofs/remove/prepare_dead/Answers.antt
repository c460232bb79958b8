use Rattle.std.proofs.Common.{sym, ◌∙◌}
use Rattle.container_table.specs.Logs.{container_in}
use Rattle.changing_calls.proofs.RemoveLemmas.{dead_gone, dead_refused}
use Rattle.changing_calls.proofs.remove.prepare_dead.Goals as goal

pub returns-then-stands : goal.returns-then-stands
returns-then-stands c = dead_refused c.refuse_begun.result c.args.moment c.args.tables.now.state (container_in c.args.h.now) (sym c.if-stands.true ∙ c.stands.ensures) c.refuse_begun.ensures

pub returns-else-stands : goal.returns-else-stands
returns-else-stands c = dead_gone c.prepare_gone.result c.args.moment c.args.tables.now.state (container_in c.args.h.now) (sym c.if-stands.false ∙ c.stands.ensures) c.prepare_gone.ensures
