use Rattle.std.proofs.Common.{subst, sym}
use Rattle.machine_model.specs.State.{State}
use Rattle.machine_events.specs.Deadlines.{CanRestart}
use Rattle.machine_effects.proofs.DueLemmas.{launch_timed}
use Rattle.machine_effects.proofs.tables.Tables.restart_timer.Goals as goal

pub count_restart-requires : goal.count_restart-requires
count_restart-requires c = subst (λ (z : State). CanRestart c.args.number z) (sym c.clear_timer.ensures.state) c.requires.restarts

pub launch-requires-clause-fit : goal.launch-requires-clause-fit
launch-requires-clause-fit c = launch_timed c.args.number c.args.script c.args.self.now.state c.clear_timer.new.self.state c.count_restart.new.self.state c.clear_timer.ensures.state c.count_restart.ensures.state c.requires.launch
