use Rattle.proc_kernel.specs.Processes.{signal}
use Rattle.machine_events.proofs.DiedLemmas.{end_stepped}
use Rattle.machine_effects.proofs.tables.Tables.send.Goals as goal

pub main_effect-requires-clause-end : goal.main_effect-requires-clause-end
main_effect-requires-clause-end c =
    end_stepped (signal c.args.sent.number c.args.thaws) c.args.number c.args.brought c.args.self.now.room c.signal_process-effect.new.self.room c.args.self.now.state c.signal_process-effect.new.self.state c.signal_process-effect.result
    c.signal_process-effect.ensures.state c.signal_process-effect.ensures.effect c.signal_process-effect.ensures.room c.requires.end
