use Rattle.one_program.proofs.StatusLemmas.{never_stopped}
use Rattle.one_program.proofs.laws.law_of_stops.Goals as goal

pub returns : goal.returns
returns c = never_stopped
