use Rattle.container_table.specs.Logs.{container_in}
use Rattle.reading_calls.proofs.InspectLemmas.{created_until, started_until, finished_until}
use Rattle.reading_calls.proofs.inspect.prepare.Goals as goal

pub container_body-requires-clause-created : goal.container_body-requires-clause-created
container_body-requires-clause-created c = created_until c.args.tables.now.state c.args.h.now.container.number (container_in c.args.h.now) c.requires.kept c.requires.stands

pub container_body-requires-clause-started : goal.container_body-requires-clause-started
container_body-requires-clause-started c = started_until c.args.tables.now.state c.args.h.now.container.number (container_in c.args.h.now) c.requires.kept c.requires.stands

pub container_body-requires-clause-finished : goal.container_body-requires-clause-finished
container_body-requires-clause-finished c = finished_until c.args.tables.now.state c.args.h.now.container.number (container_in c.args.h.now) c.requires.kept c.requires.stands
