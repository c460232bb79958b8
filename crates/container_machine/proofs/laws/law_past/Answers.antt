use Rattle.machine_model.proofs.Laws.{past_law}
use Rattle.container_machine.proofs.laws.law_past.Goals as goal

pub returns : goal.returns
returns c = past_law
