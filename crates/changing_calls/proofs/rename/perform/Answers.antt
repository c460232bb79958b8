use Rattle.std.proofs.Common.{◌∙◌}
use Rattle.changing_calls.proofs.RenameLemmas.{none_renamed, renamed_state}
use Rattle.changing_calls.proofs.rename.perform.Goals as goal

pub returns-clause-state : goal.returns-clause-state
returns-clause-state c = c.rename.ensures.state ∙ renamed_state c.args.number c.args.name c.args.tables.now.state

pub returns-clause-died : goal.returns-clause-died
returns-clause-died c = none_renamed c.args.number c.args.name c.args.tables.now.state
