use Rattle.std.proofs.Common.{sym}
use Rattle.engine_text.specs.declared.event.Action.{Action}
use Rattle.machine_model.specs.Effects.Cancel.{cancel_restart}
use Rattle.machine_model.specs.EventTexts.{plain_event}
use Rattle.machine_events.proofs.DiedToldLemmas.{none_told}
use Rattle.changing_calls.proofs.stop.perform_restarting.Goals as goal

pub returns-clause-died : goal.returns-clause-died
returns-clause-died c = sym (none_told (plain_event Action.Stop) c.args.number (cancel_restart c.args.number c.args.tables.now.state).state)
