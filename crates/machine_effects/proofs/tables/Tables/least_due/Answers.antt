use Rattle.std.proofs.Common.{ap, ◌∙◌}
use Rattle.container_table.specs.Timers.{least}
use Rattle.machine_model.specs.Due.{least_due}
use Rattle.machine_tables.specs.LeastDue.{actions_of, lesser}
use Rattle.machine_events.specs.Memory.{Memory}
use Rattle.machine_tables.proofs.LeastDueLemmas.{least_both}
use Rattle.machine_effects.proofs.tables.Tables.least_due.Goals as goal

pub returns : goal.returns
returns c =
    c.lesser.ensures
    ∙ (ap (λ o. lesser o c.least-2.result) c.least.ensures
    ∙ (ap (λ o. lesser (least (actions_of c.self.inside.processes.processes)) o) c.least-2.ensures
    ∙ (least_both (actions_of c.self.inside.processes.processes) c.self.inside.table.timers ∙ ap (λ (m : Memory). least_due m.state) c.self.view_is)))
