use Rattle.container_table.specs.Logs.{container_in}
use Rattle.machine_events.proofs.CreateLemmas.{none_added}
use Rattle.changing_calls.proofs.create.perform.Goals as goal

pub returns-clause-died : goal.returns-clause-died
returns-clause-died c = none_added (container_in c.args.held) c.args.tables.now.state
