use Rattle.std.proofs.Common.{List, ap, ◌∙◌, map, filter}
use Rattle.engine_text.specs.declared.exec.Exec.{Exec}
use Rattle.proc_kernel.specs.Tables.{Entry}
use Rattle.machine_model.specs.State.{running_execs}
use Rattle.machine_events.specs.Running.{is_running}
use Rattle.machine_events.proofs.EachLemmas.{running_is}
use Rattle.machine_events.specs.Memory.{Memory}
use Rattle.machine_effects.specs.Views.Tables.{state_of}
use Rattle.machine_effects.proofs.tables.Tables.note_running.Goals as goal

pub returns-clause-scratch : goal.returns-clause-scratch
returns-clause-scratch c =
    c.list_running.ensures.items
    ∙ (ap (λ (ps : List Entry). map (λ (x : Exec). x.number) (filter (is_running c.args.number ps) c.self.inside.execs.execs)) c.kernel-kernel.ensures
    ∙ ap (map (λ (x : Exec). x.number)) (running_is c.args.number (state_of c.self.inside))
    ∙ ap (λ (m : Memory). map (λ (x : Exec). x.number) (running_execs c.args.number m.state)) c.self.view_is)
