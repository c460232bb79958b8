use Rattle.http_edge.proofs.EndLemmas.{refused_stays}
use Rattle.http_edge.proofs.laws.law_refused_stays.Goals as goal

pub returns : goal.returns
returns c = refused_stays
