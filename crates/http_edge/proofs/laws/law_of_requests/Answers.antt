use Rattle.http_edge.proofs.ReadingLemmas.{reading_of}
use Rattle.http_edge.proofs.laws.law_of_requests.Goals as goal

pub returns : goal.returns
returns c = reading_of
