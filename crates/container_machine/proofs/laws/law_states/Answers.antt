use Rattle.machine_model.proofs.Laws.{states_law}
use Rattle.container_machine.proofs.laws.law_states.Goals as goal

pub returns : goal.returns
returns c = states_law
