use Rattle.std.proofs.Common.{◌∙◌}
use Rattle.changing_calls.proofs.UpdateLemmas.{none_updated, updated_state}
use Rattle.changing_calls.proofs.update.perform.Goals as goal

pub returns-clause-state : goal.returns-clause-state
returns-clause-state c = c.renew.ensures.state ∙ updated_state c.args.number c.args.policy c.args.tables.now.state

pub returns-clause-died : goal.returns-clause-died
returns-clause-died c = none_updated c.args.number c.args.policy c.args.tables.now.state
