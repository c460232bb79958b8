use Rattle.changing_calls.proofs.ExecStartLemmas.{none_started}
use Rattle.changing_calls.proofs.execs.start.perform.Goals as goal

pub returns-clause-died : goal.returns-clause-died
returns-clause-died c = none_started c.args.number c.args.script c.args.detach c.args.tables.now.state
