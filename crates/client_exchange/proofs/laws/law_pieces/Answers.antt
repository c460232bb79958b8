use Rattle.client_exchange.proofs.TakingLemmas.{taken_on, shown_on}
use Rattle.client_exchange.proofs.laws.law_pieces.Goals as goal

pub returns : goal.returns
returns c = λ showing body piece. (taken_on showing body piece, shown_on showing body piece)
