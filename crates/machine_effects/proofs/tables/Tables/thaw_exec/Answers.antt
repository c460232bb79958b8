use Rattle.proc_kernel.specs.Processes.{thaw}
use Rattle.proc_kernel.proofs.TimeLemmas.{thaw_timely}
use Rattle.machine_events.proofs.TimeLemmas.{timely_parts}
use Rattle.machine_effects.proofs.tables.Tables.thaw_exec.Goals as goal

pub returns-clause-timely : goal.returns-clause-timely
returns-clause-timely c = timely_parts thaw c.args.number c.thaw_process-effect.result c.args.self.now.state c.thaw_process-effect.new.self.state c.exec_effect.new.self.state thaw_timely c.requires c.thaw_process-effect.ensures.state c.exec_effect.ensures.state
