use Rattle.http_edge.proofs.StreamLemmas.{one_reading}
use Rattle.http_edge.proofs.laws.law_one_reading.Goals as goal

pub returns : goal.returns
returns c = λ bytes rest other rs qs a b. one_reading rs qs bytes rest other a b
