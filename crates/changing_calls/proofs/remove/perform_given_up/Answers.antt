use Rattle.changing_calls.proofs.RemoveLemmas.{none_given_up, removes_cancelled}
use Rattle.changing_calls.proofs.remove.perform_given_up.Goals as goal

pub destroy-requires : goal.destroy-requires
destroy-requires c = removes_cancelled c.args.number c.args.brought c.args.tables.now.room c.cancel_restart.new.self.room c.args.tables.now.state c.cancel_restart.new.self.state c.requires c.cancel_restart.ensures.state c.cancel_restart.ensures.room

pub returns-clause-died : goal.returns-clause-died
returns-clause-died c = none_given_up c.args.number c.args.tables.now.state
