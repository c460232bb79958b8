use Rattle.exchange_laws.proofs.WaitLemmas.{waited}
use Rattle.exchange_laws.proofs.laws.law_of_waits.Goals as goal

pub returns : goal.returns
returns c = waited
