use Rattle.machine_model.proofs.Laws.{fold_law}
use Rattle.container_machine.proofs.laws.law_fold.Goals as goal

pub returns : goal.returns
returns c = fold_law
