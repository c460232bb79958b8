use Rattle.machine_model.proofs.Laws.{log_grows_law}
use Rattle.container_machine.proofs.laws.law_log_grows.Goals as goal

pub returns : goal.returns
returns c = log_grows_law
