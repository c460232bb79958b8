use Rattle.engine_program.proofs.StatusLemmas.{failed}
use Rattle.engine_program.proofs.laws.law_of_faults.Goals as goal

pub returns : goal.returns
returns c = failed
