use Rattle.std.proofs.Common.{◌∙◌, ap}
use Rattle.container_table.specs.Timers.{least}
use Rattle.proc_kernel.specs.Tables.{Table}
use Rattle.machine_tables.specs.LeastDue.{actions_of}
use Rattle.machine_tables.proofs.ProcessLemmas.{least_due_of}
use Rattle.machine_tables.proofs.processes.Processes.least.Goals as goal

pub returns : goal.returns
returns c =
    c.least.ensures ∙ least_due_of c.self.inside.kernel.processes c.self.inside.dues.actions c.self.invariant.dues
    ∙ ap (λ (t : Table). least (actions_of t.processes)) c.self.view_is
