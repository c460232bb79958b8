use Rattle.machine_model.proofs.Laws.{attach_law}
use Rattle.container_machine.proofs.laws.law_attach.Goals as goal

pub returns : goal.returns
returns c = attach_law
