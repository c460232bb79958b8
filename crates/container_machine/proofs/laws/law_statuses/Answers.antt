use Rattle.machine_model.proofs.Laws.{statuses_law}
use Rattle.container_machine.proofs.laws.law_statuses.Goals as goal

pub returns : goal.returns
returns c = statuses_law
