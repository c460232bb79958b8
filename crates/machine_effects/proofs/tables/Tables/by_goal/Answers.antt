use Rattle.std.proofs.Common.{subst}
use Rattle.engine_text.specs.declared.container.Goal.{Goal}
use Rattle.machine_events.specs.Fit.{HasGoal}
use Rattle.machine_events.proofs.SettleLemmas.{launch_next}
use Rattle.machine_effects.proofs.tables.Tables.by_goal.Goals as goal

pub launch_by_call-requires-clause-fit : goal.launch_by_call-requires-clause-fit
launch_by_call-requires-clause-fit c =
    launch_next c.args.number c.args.brought.script c.args.self.now.state
    (subst (λ (g : Goal). HasGoal g c.args.number c.args.self.now.state) c.in-Restart.is c.requires.goal) c.requires.fit.launch
