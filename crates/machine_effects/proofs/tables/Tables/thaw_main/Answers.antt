use Rattle.proc_kernel.specs.Processes.{thaw}
use Rattle.machine_events.proofs.DiedLemmas.{end_stepped}
use Rattle.machine_effects.proofs.tables.Tables.thaw_main.Goals as goal

pub main_effect-requires-clause-end : goal.main_effect-requires-clause-end
main_effect-requires-clause-end c =
    end_stepped thaw c.args.number c.args.brought c.args.self.now.room c.thaw_process-effect.new.self.room c.args.self.now.state c.thaw_process-effect.new.self.state c.thaw_process-effect.result
    c.thaw_process-effect.ensures.state c.thaw_process-effect.ensures.effect c.thaw_process-effect.ensures.room c.requires.end
