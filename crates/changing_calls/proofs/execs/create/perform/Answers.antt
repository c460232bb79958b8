use Rattle.std.proofs.Common.{◌∙◌}
use Rattle.changing_calls.proofs.ExecLemmas.{added_state, none_added}
use Rattle.changing_calls.proofs.execs.create.perform.Goals as goal

pub returns-clause-state : goal.returns-clause-state
returns-clause-state c = c.add_exec.ensures.state ∙ added_state c.args.exec c.args.tables.now.state

pub returns-clause-died : goal.returns-clause-died
returns-clause-died c = none_added c.args.exec c.args.tables.now.state
