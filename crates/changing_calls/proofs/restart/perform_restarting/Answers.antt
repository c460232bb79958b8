use Rattle.changing_calls.proofs.RestartLemmas.{launch_cancelled, none_restarting}
use Rattle.changing_calls.proofs.restart.perform_restarting.Goals as goal

pub launch_by_call-requires-clause-fit : goal.launch_by_call-requires-clause-fit
launch_by_call-requires-clause-fit c = launch_cancelled c.args.number c.args.script c.args.tables.now.state c.cancel_restart.new.self.state c.cancel_restart.ensures.state c.requires.launch

pub returns-clause-died : goal.returns-clause-died
returns-clause-died c = none_restarting c.args.number c.args.tables.now.state
