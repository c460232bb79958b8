use Rattle.front_session.proofs.LawLemmas.{runs_are_fronts}
use Rattle.front_session.proofs.laws.law_runs_are_fronts.Goals as goal

pub returns : goal.returns
returns c = runs_are_fronts
