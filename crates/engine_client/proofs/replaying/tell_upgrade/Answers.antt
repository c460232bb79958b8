use Rattle.client_model.specs.Commands.Replay.{opened}
use Rattle.engine_client.proofs.ReplayLemmas.{upgrade_told}
use Rattle.engine_client.proofs.replaying.tell_upgrade.Goals as goal

pub returns-in-Ok : goal.returns-in-Ok
returns-in-Ok g c = λ link e.
    upgrade_told (opened c.args.seed c.args.moment) c.args.text.now c.in-Ok.upgraded c.print_upgraded.result _ _ c.in-Ok.ensures
    (c.print_upgraded.ensures link e)
