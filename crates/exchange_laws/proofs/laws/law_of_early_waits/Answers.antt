use Rattle.exchange_laws.proofs.EarlyLemmas.{waited_early}
use Rattle.exchange_laws.proofs.laws.law_of_early_waits.Goals as goal

pub returns : goal.returns
returns c = waited_early
