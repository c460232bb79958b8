use Rattle.changing_calls.proofs.RemoveLemmas.{none_gone}
use Rattle.changing_calls.proofs.remove.perform.Goals as goal

pub returns-clause-died : goal.returns-clause-died
returns-clause-died c = none_gone c.args.number c.args.tables.now.state
