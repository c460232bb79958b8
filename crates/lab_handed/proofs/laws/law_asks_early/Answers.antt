use Rattle.lab_handed.proofs.HeadLemmas.{asks_it}
use Rattle.lab_handed.proofs.laws.law_asks_early.Goals as goal

pub returns : goal.returns
returns c = asks_it
