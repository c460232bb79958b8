use Rattle.std.proofs.Common.{subst, sym}
use Rattle.machine_model.specs.State.{State}
use Rattle.machine_events.specs.Fit.{CanLaunch}
use Rattle.container_table.specs.declared.life_change.LifeChange.{LifeChange}
use Rattle.machine_events.proofs.SettleLemmas.{launch_renew}
use Rattle.machine_effects.proofs.tables.Tables.launch_by_call.Goals as goal

pub launch-requires-clause-fit : goal.launch-requires-clause-fit
launch-requires-clause-fit c =
    subst (λ (s : State). CanLaunch c.args.number c.args.script s) (sym c.renew.ensures.state)
    (launch_renew c.args.number c.args.script LifeChange.Afresh c.args.self.now.state c.requires.fit)
