use Rattle.http_edge.proofs.DecidedLemmas.{decided}
use Rattle.http_edge.proofs.laws.law_refused_is_decided.Goals as goal

pub returns : goal.returns
returns c = decided
