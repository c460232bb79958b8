use Rattle.changing_calls.proofs.StartLemmas.{none_start}
use Rattle.changing_calls.proofs.start.perform.Goals as goal

pub returns-clause-died : goal.returns-clause-died
returns-clause-died c = none_start c.args.number c.args.tables.now.state
