use Rattle.client_exchange.proofs.TakingLemmas.{ends_so, unfit_so}
use Rattle.client_exchange.proofs.laws.law_ends.Goals as goal

pub returns : goal.returns
returns c = λ showing body. (ends_so showing body, unfit_so showing body)
