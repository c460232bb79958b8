use Rattle.one_program.proofs.StatusLemmas.{failed}
use Rattle.one_program.proofs.laws.law_of_faults.Goals as goal

pub returns : goal.returns
returns c = failed
