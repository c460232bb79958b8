use Rattle.machine_events.proofs.DiedLemmas.{none_pause}
use Rattle.changing_calls.proofs.pause.perform.Goals as goal

pub returns-clause-died : goal.returns-clause-died
returns-clause-died c = none_pause c.args.number c.args.tables.now.state
