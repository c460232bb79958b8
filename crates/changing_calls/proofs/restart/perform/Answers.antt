use Rattle.changing_calls.proofs.RestartLemmas.{none_again}
use Rattle.changing_calls.proofs.restart.perform.Goals as goal

pub returns-clause-died : goal.returns-clause-died
returns-clause-died c = none_again c.args.number c.args.tables.now.state
